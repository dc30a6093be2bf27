-- The lines of an accepted certificate give good entries.
use Rattle.std.proofs.Common.{◌≡◌, ℕ, ◌<◌, List, [], ◌∷◌, ◌++◌, Some, None, length, map}
use Rattle.std.proofs.Common.{option_map, option_and_then, refl, sym, ◌∙◌, ap, subst, zero, suc}
use Rattle.std.proofs.Common.{inl, inr, ◌⊎◌, arith}
use Rattle.std.specs.List.{slice_get}
use Rattle.std.specs.Option.{option_flatten}
use Rattle.std.proofs.lemmas.Option.{slice_get-map}
use Rattle.win_cert.specs.Entries.{ScopedEntry, context_at, entries_below, entry_at, gives}
use Rattle.win_cert.specs.Reasons.{reason_against}
use Rattle.win_cert.specs.Scopes.{player_board}
use Rattle.win_cert.specs.declared.statements.Statement.{Statement}
use Rattle.win_cert.specs.declared.statements.Statement.TheVariants.{Claim, Derivation}
use Rattle.win_cert.specs.Verdicts.{Accepted}
use Rattle.win_cert.specs.Writable.{HasBoard}
use Rattle.win_cert.specs.declared.certs.Cert.{Cert}
use Rattle.win_cert.specs.declared.lines.Line.{Line}
use Rattle.win_cert.proofs.LineTruth.{read_good}
use Rattle.win_cert.proofs.NamedEntries.{GaveGood, none_applies}
use Rattle.win_cert.proofs.Options.{some_of_then}
use Rattle.win_cert.proofs.ScopeBoards.{IsSmallBoard}

-- ---- the certificate's board

pub small_board : (cert : Cert) → HasBoard cert → IsSmallBoard (player_board cert)
small_board cert h = h.most

-- ---- no reason against a line, or the claim

pub at_left : {X : Type 0} (xs ys : List X) (i : ℕ) (x : X) → slice_get xs i ≡ Some x
    → slice_get (xs ++ ys) i ≡ Some x
at_left [] ys i x h = absurd (cc)
at_left (y ∷ xs) ys zero x h = h
at_left (y ∷ xs) ys (suc i) x h = at_left xs ys i x h

pub at_claim : (lines : List Line) (s : Statement)
    → slice_get (map Derivation lines ++ s ∷ []) (length lines) ≡ Some s
at_claim [] s = refl
at_claim (line ∷ lines) s = at_claim lines s

pub past_claim : (lines : List Line) (s : Statement) (k : ℕ) → length lines < k
    → slice_get (map Derivation lines ++ s ∷ []) k ≡ None
past_claim [] s zero l = absurd (omega arith)
past_claim [] s (suc k) l = refl
past_claim (line ∷ lines) s zero l = absurd (omega arith)
past_claim (line ∷ lines) s (suc k) l = past_claim lines s k (omega arith)

pub line_clear : (cert : Cert) (k : ℕ) (line : Line) → Accepted cert
    → slice_get cert.lines k ≡ Some line
    → reason_against (context_at cert k) (Derivation line) ≡ None
line_clear cert k line h e
    = subst (λ o. option_and_then (reason_against (context_at cert k)) o ≡ None)
    (at_left (map Derivation cert.lines) (Claim cert.claim cert.entry ∷ []) k (Derivation line) (slice_get-map Derivation cert.lines k
    ∙ ap (option_map Derivation) e)) (h k)

pub claim_clear : (cert : Cert) → Accepted cert
    → reason_against (context_at cert (length cert.lines)) (Claim cert.claim cert.entry) ≡ None
claim_clear cert h
    = subst (λ o. option_and_then (reason_against (context_at cert (length cert.lines))) o ≡ None)
    (at_claim cert.lines (Claim cert.claim cert.entry)) (h (length cert.lines))

-- ---- what the lines give

at_last : {X : Type 0} (xs : List X) (y : X) (i : ℕ)
    → (slice_get (xs ++ y ∷ []) i ≡ slice_get xs i) ⊎ (slice_get (xs ++ y ∷ []) i ≡ Some y)
at_last [] y zero = inr refl
at_last [] y (suc i) = inl refl
at_last (x ∷ xs) y zero = inl refl
at_last (x ∷ xs) y (suc i) = at_last xs y i

-- an entry that one of the first n lines gave is that of an earlier line, or that of the last of
-- them
pub given_by : (cert : Cert) (n i : ℕ) (a : ScopedEntry)
    → entry_at (context_at cert (suc n)) i ≡ Some a
    → (entry_at (context_at cert n) i ≡ Some a) ⊎ ((line : Line) × (slice_get cert.lines n ≡ Some line) × (gives (context_at cert n) line ≡ Some a))
given_by cert n i a h =
    let y = option_and_then (gives (context_at cert n)) (slice_get cert.lines n) in
    elim (at_last (entries_below cert n) y i) [
      | inl e ↦ inl (ap option_flatten (sym e) ∙ h)
      | inr e ↦ inr
          (some_of_then (gives (context_at cert n)) (slice_get cert.lines n) a (ap option_flatten (sym e) ∙ h))
    ]

-- the first n lines give good entries
pub gave_good : (cert : Cert) (n : ℕ) → HasBoard cert → Accepted cert → GaveGood (context_at cert n)
gave_good cert zero b h i a e = absurd (cc)
gave_good cert (suc n) b h i a e = elim (given_by cert n i a e) [
  | inl f ↦ gave_good cert n b h i a f
  | inr (line, l, f) ↦ read_good (context_at cert n) line a (record {
    small = small_board cert b;
    earlier = gave_good cert n b h;
    clear = none_applies (context_at cert n) (Derivation line) (line_clear cert n line h l);
  }) f
]
