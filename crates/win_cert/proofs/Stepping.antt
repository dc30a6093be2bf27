-- A certificate's lines, read in turn: what the next line is read over, and the reasons so far.
use Rattle.std.proofs.Common.{◌≡◌, ℕ, ◌+◌, ◌<◌, ◌≤◌, List, [], ◌∷◌, ◌++◌, Option, Some, None}
use Rattle.std.proofs.Common.{length, map, take, option_map, option_and_then, refl, sym, ◌∙◌, ap}
use Rattle.std.proofs.Common.{subst, zero, suc, nat_lt, arith, inl, inr}
use Rattle.std.specs.List.{slice_get}
use Rattle.std.proofs.lemmas.Bool.{cases_Bool, ltb-true, ltb-false}
use Rattle.std.proofs.lemmas.Option.{slice_get-map}
use Rattle.hex_board.specs.Elements.{PlayerBoard}
use Rattle.win_cert.specs.Entries.{Context, ScopedEntry, context_at, entries_below, gives}
use Rattle.win_cert.specs.Reasons.{reason_against}
use Rattle.win_cert.specs.Scopes.{player_board, scope_after}
use Rattle.win_cert.specs.declared.statements.Statement.TheVariants.{Claim, Derivation}
use Rattle.win_cert.specs.Verdicts.{Accepted, reason_at}
use Rattle.win_cert.specs.declared.certs.Cert.{Cert}
use Rattle.win_cert.specs.declared.lines.Line.{Line}
use Rattle.win_cert.specs.declared.lines.Line.TheVariants.{Adj, And, Key, Or2, Or3, Put, Done, Move}
use Rattle.win_cert.specs.declared.lines.Line.TheVariants.{Cases, Lift, OrMany}
use Rattle.win_cert.specs.Contexts.{context_after}
use Rattle.win_cert.proofs.GivenEntries.{at_left, at_claim, past_claim}

-- ---- the scope

scope_cons : (s : ℕ) (line : Line) (lines : List Line)
    → scope_after s (line ∷ lines) ≡ scope_after (scope_after s (line ∷ [])) lines
scope_cons s (Adj x y) lines = refl
scope_cons s (And i j) lines = refl
scope_cons s (Key i j) lines = refl
scope_cons s (Or2 i j) lines = refl
scope_cons s (Or3 i j k) lines = refl
scope_cons s (OrMany numbers) lines = refl
scope_cons s (Put cells) lines = refl
scope_cons s Done lines = refl
scope_cons s (Move k i) lines = refl
scope_cons s (Cases numbers) lines = refl
scope_cons s (Lift i) lines = refl

scope_more : (s : ℕ) (lines : List Line) (k : ℕ) (line : Line) → slice_get lines k ≡ Some line
    → scope_after s (take (suc k) lines) ≡ scope_after (scope_after s (take k lines)) (line ∷ [])
scope_more s [] k line h = absurd (cc)
scope_more s (l ∷ lines) zero line h = let e : l ≡ line = cc in ap (λ x. scope_after s (x ∷ [])) e
scope_more s (l ∷ lines) (suc k) line h = scope_cons s l (take (suc k) lines)
    ∙ scope_more (scope_after s (l ∷ [])) lines k line h
    ∙ ap (λ t. scope_after t (line ∷ [])) (sym (scope_cons s l (take k lines)))

-- ---- what the next line is read over

abbrev context_of : PlayerBoard → ℕ → List (Option ScopedEntry) → Context
context_of base s earlier = record { base = base; scope = s; earlier = earlier }

pub context_step : (cert : Cert) (k : ℕ) (line : Line) → slice_get cert.lines k ≡ Some line
    → context_at cert (suc k) ≡ context_after (context_at cert k) line
context_step cert k line h =
    ap (λ s. context_of (player_board cert) s (entries_below cert (suc k)))
    (scope_more 0 cert.lines k line h)
    ∙ ap (λ o. context_of (player_board cert) (scope_after (scope_after 0 (take k cert.lines)) (line ∷ [])) (entries_below cert k
    ++ option_and_then (gives (context_at cert k)) o ∷ [])) h

-- ---- the statements

-- the reason against line k is the one against it after the k lines before it
pub line_reason : {kept : Context} (cert : Cert) (k : ℕ) (line : Line)
    → slice_get cert.lines k ≡ Some line → kept ≡ context_at cert k
    → reason_at cert k ≡ reason_against kept (Derivation line)
line_reason cert k line h kept = ap (option_and_then (reason_against (context_at cert k)))
    (at_left (map Derivation cert.lines) (Claim cert.claim cert.entry ∷ []) k (Derivation line) (slice_get-map Derivation cert.lines k
    ∙ ap (option_map Derivation) h))
    ∙ ap (λ n. reason_against n (Derivation line)) (sym kept)

-- and the one against the claim is the one after all lines
pub claim_reason : {kept : Context} (cert : Cert) → kept ≡ context_at cert (length cert.lines)
    → reason_at cert (length cert.lines) ≡ reason_against kept (Claim cert.claim cert.entry)
claim_reason cert kept = ap (option_and_then (reason_against (context_at cert (length cert.lines))))
    (at_claim cert.lines (Claim cert.claim cert.entry))
    ∙ ap (λ n. reason_against n (Claim cert.claim cert.entry)) (sym kept)

-- no reason stands against the first k statements
abbrev pub AreClearTo : Cert → ℕ → Type 0
AreClearTo cert k = (j : ℕ) → j < k → reason_at cert j ≡ None

pub clear_more : (cert : Cert) (k : ℕ) → AreClearTo cert k → reason_at cert k ≡ None
    → AreClearTo cert (k + 1)
clear_more cert k f h j l = elim (cases_Bool (nat_lt j k)) [
  | inl t ↦ f j (ltb-true j k t)
  | inr t ↦ let q : k ≤ j = ltb-false j k t in let e : k ≡ j = omega (arith, l, q) in
      subst (λ v. reason_at cert v ≡ None) e h
]

pub all_clear : (cert : Cert) → AreClearTo cert (length cert.lines)
    → reason_at cert (length cert.lines) ≡ None → Accepted cert
all_clear cert f h k = elim (cases_Bool (nat_lt k (length cert.lines + 1))) [
  | inl t ↦ clear_more cert (length cert.lines) f h k (ltb-true k (length cert.lines + 1) t)
  | inr t ↦ let q : length cert.lines + 1 ≤ k = ltb-false k (length cert.lines + 1) t in
      ap (option_and_then (reason_against (context_at cert k)))
      (past_claim cert.lines (Claim cert.claim cert.entry) k (omega (arith, q)))
]
