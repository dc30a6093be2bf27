-- Which reasons may stand against each form of line, in their order.
use Rattle.std.proofs.Common.{◌≡◌, ℕ, List, [], ◌∷◌, ◌==◌, ◌&&◌, not, Option, Some, None, Bool}
use Rattle.std.proofs.Common.{true, false, refl, sym, ◌∙◌, ap}
use Rattle.std.specs.List.{cons_option, list_all}
use Rattle.std.specs.Option.{is_none}
use Rattle.std.proofs.lemmas.Bool.{and_parts, false≢true, true≢false}
use Rattle.hex_cells.specs.Sets.{with_cell}
use Rattle.hex_board.specs.Positions.{is_empty_at}
use Rattle.conn_store.specs.declared.entries.Kind.{Kind}
use Rattle.win_cert.specs.Entries.{Context, ScopedEntry, elements_at, entries_at, entry_at}
use Rattle.win_cert.specs.Reasons.{reason_against, is_bad_reference, is_wrong_scope}
use Rattle.win_cert.specs.Reasons.{has_no_middle}
use Rattle.win_cert.specs.Reasons.{do_carriers_meet, is_end_in_carrier, is_middle_wrong}
use Rattle.win_cert.specs.declared.reasons.Reason.{Reason}
use Rattle.win_cert.specs.declared.reasons.Reason.TheVariants.{BadReference}
use Rattle.win_cert.specs.declared.reasons.Reason.TheVariants.{NoCommonMiddle}
use Rattle.win_cert.specs.declared.reasons.Reason.TheVariants.{CarriersMeet, EndInCarrier}
use Rattle.win_cert.specs.declared.reasons.Reason.TheVariants.{MiddleKind, CommonCell, NotEdges}
use Rattle.win_cert.specs.declared.reasons.Reason.TheVariants.{BadStone, WrongScope}
use Rattle.win_cert.specs.Scopes.{is_part}
use Rattle.win_cert.specs.Statements.{is_edge_entry, may_take, share_cell}
use Rattle.win_cert.specs.declared.statements.Statement.{Statement}
use Rattle.win_cert.specs.declared.statements.Statement.TheVariants.{Claim, Derivation}
use Rattle.win_cert.specs.declared.lines.Line.TheVariants.{Move, Cases, Lift}
use Rattle.cert_check.specs.Keeping.{chain_line}
pub use Rattle.win_cert.proofs.CutSteps.{told, adj_reasons}
pub use Rattle.win_cert.proofs.ScopeLines.{put_reasons, done_reasons, move_reasons, cases_reasons}
pub use Rattle.win_cert.proofs.Accepting.{claim_reasons}

pub told_first : (b : Bool) (r : Reason) (o : Option Reason) → b ≡ true → told b r o ≡ Some r
told_first true r o h = refl
told_first false r o h = absurd (false≢true h)

pub told_next : (b : Bool) (r : Reason) (o p : Option Reason) → b ≡ false → o ≡ p → told b r o ≡ p
told_next true r o p h e = absurd (true≢false h)
told_next false r o p h e = e

-- no reason is told if the test fails
pub told_none : (b : Bool) (r : Reason) (o : Option Reason) → told b r o ≡ None → b ≡ false
told_none true r o h = absurd (cc)
told_none false r o h = refl

pub chain_reasons : (c : Context) (over_cell : Bool) (i j : ℕ)
    → reason_against c (Derivation (chain_line over_cell i j)) ≡ told
    (is_bad_reference c (Derivation (chain_line over_cell i j))) BadReference
    (told (is_wrong_scope c (Derivation (chain_line over_cell i j))) WrongScope
    (told (has_no_middle c (Derivation (chain_line over_cell i j))) NoCommonMiddle
    (told (do_carriers_meet c (Derivation (chain_line over_cell i j))) CarriersMeet
    (told (is_end_in_carrier c (Derivation (chain_line over_cell i j))) EndInCarrier
    (told (is_middle_wrong c (Derivation (chain_line over_cell i j))) MiddleKind None)))))
unfolding reason_against
chain_reasons c true i j = refl
chain_reasons c false i j = refl

-- an entry that a statement may take is there
pub missing : (c : Context) (s : Statement) (i : ℕ) (rest : List ℕ)
    → list_all (λ k. may_take s (entry_at c k)) (i ∷ rest) ≡ true → entry_at c i ≡ None → ⊥
missing c s i rest h e
    = false≢true
    (sym (ap (λ o. may_take s o && list_all (λ k. may_take s (entry_at c k)) rest) e) ∙ h)

pub missing_next : (c : Context) (s : Statement) (i j : ℕ) (rest : List ℕ)
    → list_all (λ k. may_take s (entry_at c k)) (i ∷ j ∷ rest) ≡ true → entry_at c j ≡ None → ⊥
missing_next c s i j rest h e
    = missing c s j rest
    (and_parts (may_take s (entry_at c i)) (list_all (λ k. may_take s (entry_at c k)) (j ∷ rest)) h).1 e

-- whether entries are in scope t, by another name s of it
pub scope_is : {s t : ℕ} {inside : Bool} (c : Context) (numbers : List ℕ) → s ≡ t
    → inside ≡ list_all (λ a. a.scope == s) (entries_at c numbers)
    → inside ≡ list_all (λ a. a.scope == t) (entries_at c numbers)
scope_is c numbers same is = is ∙ ap (λ t. list_all (λ a. a.scope == t) (entries_at c numbers)) same

-- and in the checker's, by the one that it keeps
pub kept_scope : {c d : Context} {inside : Bool} (numbers : List ℕ) → d ≡ c
    → inside ≡ list_all (λ a. a.scope == d.scope) (entries_at c numbers)
    → inside ≡ list_all (λ a. a.scope == c.scope) (entries_at c numbers)
kept_scope {c = c} numbers kept is = scope_is c numbers (ap (λ n. n.scope) kept) is

-- ---- the reasons by the checker's tests: whether the entries may be taken, whether the cell is
-- empty, whether the entries are in the scope, share a cell, and are of the edges

pub lift_reasons : (c : Context) (i : ℕ) → reason_against c (Derivation (Lift i)) ≡ told
    (is_bad_reference c (Derivation (Lift i))) BadReference
    (told (is_wrong_scope c (Derivation (Lift i))) WrongScope None)
unfolding reason_against
lift_reasons c i = refl

lift_part : {part : Bool} (c : Context) (a : ScopedEntry) → part ≡ is_part a.scope c.scope
    → not (part && true) ≡ not part
lift_part {part = true} c a h = refl
lift_part {part = false} c a h = refl

-- of the entry that is named, by whether its scope is a part of the line's
pub lift_tested : {part : Bool} (c : Context) (i : ℕ) (a : ScopedEntry) → entry_at c i ≡ Some a
    → part ≡ is_part a.scope c.scope
    → reason_against c (Derivation (Lift i)) ≡ told (not part) WrongScope None
lift_tested c i a h p =
    lift_reasons c i
    ∙ ap (λ o. told (is_none o) BadReference (told (not (list_all (λ e. is_part e.scope c.scope) (cons_option o []))) WrongScope None)) h
    ∙ ap (λ b. told (not (b && true)) WrongScope None) (sym p)
    ∙ ap (λ b. told b WrongScope None) (lift_part c a p)

pub move_tested : {taken empty inside edges : Bool} (c : Context) (k i : ℕ)
    → taken ≡ list_all (λ j. may_take (Derivation (Move k i)) (entry_at c j)) (i ∷ [])
    → empty ≡ is_empty_at (elements_at c).board k
    → inside ≡ list_all (λ a. a.scope == with_cell c.scope k) (entries_at c (i ∷ []))
    → edges ≡ list_all (is_edge_entry c.base) (entries_at c (i ∷ []))
    → reason_against c (Derivation (Move k i)) ≡ told (not taken) BadReference
    (told (not empty) BadStone (told (not inside) WrongScope (told (not edges) NotEdges None)))
move_tested c k i t f s e = cc (move_reasons c k i, t, f, s, e)

pub cases_tested : {taken inside shared edges : Bool} (c : Context) (numbers : List ℕ)
    → taken ≡ list_all (λ i. may_take (Derivation (Cases numbers)) (entry_at c i)) numbers
    → inside ≡ list_all (λ a. a.scope == c.scope) (entries_at c numbers)
    → shared ≡ share_cell (entries_at c numbers)
    → edges ≡ list_all (is_edge_entry c.base) (entries_at c numbers)
    → reason_against c (Derivation (Cases numbers)) ≡ told (not taken) BadReference
    (told (not inside) WrongScope (told shared CommonCell (told (not edges) NotEdges None)))
cases_tested c numbers t s d e = cc (cases_reasons c numbers, t, s, d, e)

pub claim_tested : {taken inside edges : Bool} (c : Context) (kind : Kind) (i : ℕ)
    → taken ≡ list_all (λ j. may_take (Claim kind i) (entry_at c j)) (i ∷ [])
    → inside ≡ list_all (λ a. a.scope == 0) (entries_at c (i ∷ []))
    → edges ≡ list_all (is_edge_entry c.base) (entries_at c (i ∷ []))
    → reason_against c (Claim kind i) ≡ told (not taken) BadReference
    (told (not inside) WrongScope (told (not edges) NotEdges None))
claim_tested c kind i t s e = cc (claim_reasons c kind i, t, s, e)
