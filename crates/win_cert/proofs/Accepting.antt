-- A certificate whose lines are clear, and whose claim names an entry of the edges in the empty
-- scope, is accepted.
use Rattle.std.proofs.Common.{◌≡◌, ℕ, ◌≤◌, ◌==◌, ◌&&◌, not, true, List, [], ◌∷◌, Some, None, length}
use Rattle.std.proofs.Common.{take, refl, sym, ◌∙◌, ap, subst, zero, suc, arith}
use Rattle.std.specs.List.{cons_option, list_all, slice_get}
use Rattle.std.proofs.Math.Seq.{take-length}
use Rattle.std.proofs.lemmas.Bool.{and_from, eq-eqb}
use Rattle.conn_store.specs.Stores.{same_kind}
use Rattle.conn_store.specs.declared.entries.Kind.{Kind}
use Rattle.conn_store.proofs.Tables.{kinds_match}
use Rattle.win_cert.specs.Entries.{Context, context_at, entry_at}
use Rattle.win_cert.specs.Reasons.{reason_against, is_bad_reference, is_no_edge_entry}
use Rattle.win_cert.specs.Reasons.{is_wrong_scope}
use Rattle.win_cert.specs.declared.reasons.Reason.TheVariants.{BadReference, NotEdges, WrongScope}
use Rattle.win_cert.specs.Statements.{is_edge_entry, may_take}
use Rattle.win_cert.specs.declared.statements.Statement.TheVariants.{Claim, Derivation}
use Rattle.win_cert.specs.Verdicts.{IsVerdict}
use Rattle.win_cert.specs.declared.verdicts.Verdict.TheVariants.{Yes}
use Rattle.win_cert.specs.declared.certs.Cert.{Cert}
use Rattle.win_cert.specs.declared.lines.Line.{Line}
use Rattle.win_cert.proofs.CutSteps.{bad_one, told, told_next}
use Rattle.win_cert.proofs.CutDerivations.{some_at}
use Rattle.win_cert.proofs.Stepping.{all_clear, claim_reason, context_step, line_reason}
use Rattle.win_cert.specs.Contexts.{AreClear, after_lines, context_after, first_context}
use Rattle.win_cert.specs.Showing.{GivesEdges}

abbrev pub first_of : Cert → Context
first_of cert = first_context cert.board cert.player

after_take : (c : Context) (xs : List Line) (k : ℕ) (x : Line) → slice_get xs k ≡ Some x
    → after_lines c (take (suc k) xs) ≡ context_after (after_lines c (take k xs)) x
after_take c [] k x h = absurd (cc)
after_take c (y ∷ xs) zero x h = let e : y ≡ x = cc in ap (context_after c) e
after_take c (y ∷ xs) (suc k) x h = after_take (context_after c y) xs k x h

clear_at : (c : Context) (xs : List Line) (k : ℕ) (x : Line) → AreClear c xs
    → slice_get xs k ≡ Some x → reason_against (after_lines c (take k xs)) (Derivation x) ≡ None
clear_at c [] k x f h = absurd (cc)
clear_at c (y ∷ xs) zero x f h = let e : y ≡ x = cc in
    subst (λ v. reason_against c (Derivation v) ≡ None) e f.0
clear_at c (y ∷ xs) (suc k) x f h = clear_at (context_after c y) xs k x f.1 h

pub read_over : (cert : Cert) (k : ℕ) → k ≤ length cert.lines
    → context_at cert k ≡ after_lines (first_of cert) (take k cert.lines)
read_over cert zero l = refl
read_over cert (suc k) l =
    let w = some_at cert.lines k (omega arith) in
    context_step cert k w.0 w.1 ∙ ap (λ c. context_after c w.0) (read_over cert k (omega arith))
    ∙ sym (after_take (first_of cert) cert.lines k w.0 w.1)

pub read_all : (cert : Cert) → context_at cert (length cert.lines) ≡ after_lines
    (first_of cert) cert.lines
read_all cert = read_over cert (length cert.lines) (omega arith)
    ∙ ap (after_lines (first_of cert)) (take-length cert.lines)

-- ---- the claim

pub claim_reasons : (c : Context) (kind : Kind) (i : ℕ)
    → reason_against c (Claim kind i) ≡ told (is_bad_reference c (Claim kind i)) BadReference
    (told (is_wrong_scope c (Claim kind i)) WrongScope (told (is_no_edge_entry c (Claim kind i)) NotEdges None))
unfolding reason_against
claim_reasons c kind i = refl

pub claim_right : (c : Context) (kind : Kind) (i d : ℕ) → GivesEdges c kind 0 d i
    → reason_against c (Claim kind i) ≡ None
claim_right c kind i d g =
    let s = Claim kind i in
    let a = g.entry in
    claim_reasons c kind i
    ∙ told_next (is_bad_reference c s) BadReference _
    (ap (λ o. not (may_take s o && true)) g.at ∙ bad_one (same_kind a.kind kind && true)
    (and_from (same_kind a.kind kind) true (ap (λ v. same_kind v kind) g.kind_is ∙ kinds_match kind) refl))
    (told_next (is_wrong_scope c s) WrongScope _
    (ap (λ o. not (list_all (λ v. v.scope == 0) (cons_option o []))) g.at ∙ bad_one (a.scope == 0) (eq-eqb a.scope 0 g.scope_is))
    (told_next (is_no_edge_entry c s) NotEdges _
    (ap (λ o. not (list_all (is_edge_entry c.base) (cons_option o []))) g.at ∙ bad_one (is_edge_entry c.base a) g.edges) refl))

-- ---- the verdict

pub accepted : (cert : Cert) (d : ℕ) → AreClear (first_of cert) cert.lines
    → GivesEdges (after_lines (first_of cert) cert.lines) cert.claim 0 d cert.entry
    → IsVerdict cert (Yes cert.claim d)
accepted cert d f g = (
  all_clear cert
      (λ j l. let w = some_at cert.lines j l in
      line_reason cert j w.0 w.1 (sym (read_over cert j (omega arith)))
      ∙ clear_at (first_of cert) cert.lines j w.0 f w.1)
      (claim_reason cert (sym (read_all cert)) ∙ claim_right (after_lines (first_of cert) cert.lines) cert.claim cert.entry d g),
  refl,
  g.entry,
  ap (λ c. entry_at c cert.entry) (read_all cert) ∙ g.at,
  sym g.carrier_is,
)
