-- Things that are said at most once.
use Rattle.std.proofs.lemmas.Bool.{or_from, or_parts}
use Rattle.std.proofs.Common.{◌≡◌, ◌≢◌, ◌∙◌, ◌||◌, Bool, true, false, refl, sym, List, [], ◌∷◌}
use Rattle.std.proofs.Common.{◌++◌, true≢false, zero, suc, arith}
use Rattle.std.specs.Prelude.{⊤}
use Rattle.std.specs.List.{All}
use Rattle.std.specs.Str.{bytes_eq}
use Rattle.std.proofs.lemmas.List.Kept.{AllPairs-cons}
use Rattle.clap.specs.Walk.{Text as TextBytes}
use Rattle.option_words.specs.Grammar.{Saying, SaysOnce}
use Rattle.option_words.proofs.Rules.{bytes_same, differs_back, same_bytes, says}

-- no name is said again later
abbrev pub Once : List Saying → Type 0
Once [] = ⊤
Once (u ∷ us) = (says u.0 us ≡ false) × Once us

pub says_both : (name : TextBytes) (us vs : List Saying)
    → says name (us ++ vs) ≡ (says name us || says name vs)
says_both name [] vs = refl
says_both name (u ∷ us) vs =
    let rest = says_both name us vs in
    elim (bytes_eq u.0 name) as
    (λ b. (b || says name (us ++ vs)) ≡ ((b || says name us) || says name vs)) [ true ↦ refl | false ↦ rest ]

-- what comes later was not said before
pub fresh_at : (us : List Saying) (u : Saying) (rest : List Saying) → Once (us ++ (u ∷ rest))
    → says u.0 us ≡ false
fresh_at [] u rest h = refl
fresh_at (v ∷ us) u rest h =
    let apart = or_parts (says v.0 us) (says v.0 (u ∷ rest))
    (sym (says_both v.0 us (u ∷ rest)) ∙ h.0) in
    let differs : bytes_eq u.0 v.0 ≡ false
    = (or_parts (bytes_eq u.0 v.0) (says v.0 rest) apart.1).0 in
    or_from _ _ (differs_back u.0 v.0 differs) (fresh_at us u rest h.1)

-- one more, which was not said before
pub once_more : (us : List Saying) (u : Saying) → Once us → says u.0 us ≡ false
    → Once (us ++ (u ∷ []))
once_more [] u once fresh = (refl, tt)
once_more (v ∷ us) u once fresh =
    let parts = or_parts (bytes_eq v.0 u.0) (says u.0 us) fresh in (
      says_both v.0 us (u ∷ [])
          ∙ or_from _ _ once.0 (or_from _ _ (differs_back v.0 u.0 parts.0) refl),
      once_more us u once.1 parts.1,
    )

pub once_front : (us vs : List Saying) → Once (us ++ vs) → Once us
once_front [] vs h = tt
once_front (u ∷ us) vs h =
    ((or_parts (says u.0 us) (says u.0 vs) (sym (says_both u.0 us vs) ∙ h.0)).0, once_front us vs h.1)

-- ---- the same by pairs

said_at : (name : TextBytes) (us : List Saying) → says name us ≡ false → All (λ s. name ≢ s.0) us
said_at name [] h k d lt = absurd (omega arith)
said_at name (u ∷ us) h zero d lt
    = λ same. absurd
    (true≢false (sym (bytes_same u.0 name (sym same)) ∙ (or_parts (bytes_eq u.0 name) (says name us) h).0))
said_at name (u ∷ us) h (suc k) d lt
    = said_at name us (or_parts (bytes_eq u.0 name) (says name us) h).1 k d (omega arith)

pub pairs_from_once : (us : List Saying) → Once us → SaysOnce us
pairs_from_once [] h = λ i j d lt below. absurd (omega arith)
pairs_from_once (u ∷ us) h =
    AllPairs-cons (λ (a b : Saying). a.0 ≢ b.0) u us (said_at u.0 us h.0) (pairs_from_once us h.1)

not_said : (name : TextBytes) (us : List Saying) → All (λ s. name ≢ s.0) us → says name us ≡ false
not_said name [] h = refl
not_said name (u ∷ us) h =
    let other : name ≢ u.0 = h 0 u (omega arith) in
    or_from _ _ (differs (bytes_eq u.0 name) refl other)
    (not_said name us (λ k d lt. h (suc k) d (omega arith)))
  where
    differs : (b : Bool) → bytes_eq u.0 name ≡ b → name ≢ u.0 → b ≡ false
    differs true e other = absurd (other (sym (same_bytes u.0 name e)))
    differs false e other = refl

pub once_from_pairs : (us : List Saying) → SaysOnce us → Once us
once_from_pairs [] h = tt
once_from_pairs (u ∷ us) h = (
  not_said u.0 us (λ k d lt. h 0 (suc k) d (omega arith) (omega arith)),
  once_from_pairs us (λ i j d lt below. h (suc i) (suc j) d (omega arith) (omega arith)),
)
