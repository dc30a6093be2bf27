use Rattle.std.proofs.Common.{◌≡◌, ◌+◌, length, get_or, refl, sym, ◌∙◌, ap, subst, arith, suc}
use Rattle.win_cert.specs.Entries.{Context, context_at, entry_at}
use Rattle.win_cert.specs.Verdicts.{Accepted, IsVerdict, reason_at}
use Rattle.win_cert.specs.Writable.{IsLineOf}
use Rattle.cert_check.specs.Answers.{IsYes}
use Rattle.win_cert.specs.Contexts.{context_after}
use Rattle.win_cert.proofs.Stepping.{AreClearTo, all_clear, claim_reason, clear_more, context_step}
use Rattle.win_cert.proofs.Stepping.{line_reason}
use Rattle.cert_check.proofs.Stepping.{all_read, few_lines, is_line, next_line}
use Rattle.cert_check.proofs.checking.check.Goals as goal
use Rattle.cert_check.proofs.checking.check.Goals.{in-Ok-claimed, in-Err-claimed}

pub lines-init : goal.lines-init
lines-init c = (c.in_ok-checker.ensures, refl, λ j l. absurd (omega (arith, l)))

pub read-requires : goal.read-requires
read-requires c =
    let cert = c.args.cert.now in
    let i = c.lines.line-index in
    let item = c.line-item.result in
    let is : item ≡ get_or cert.lines i item
    = subst (λ xs. item ≡ get_or xs i item) c.as_slice-line-items.ensures c.line-item.is in
    let good : IsLineOf cert.version cert.board.size item
    = subst (IsLineOf cert.version cert.board.size) (sym is)
    (c.requires.0.lines i item (is_line cert c.as_slice-line-items.ensures c.lines-test.true)) in
    record { line = (cert.version, subst (λ (n : Context). IsLineOf cert.version n.base.board.size item) (sym c.lines.invariant.0) good) }

pub returns-in-Err-clause-verdict : goal.returns-in-Err-clause-verdict
returns-in-Err-clause-verdict c =
    let cert = c.args.cert.now in
    let at = next_line cert c.line-item.result c.as_slice-line-items.ensures c.lines-test.true c.line-item.is in
    let read = line_reason cert c.lines.line-index c.line-item.result at c.lines.invariant.0 in
    (ap (reason_at cert) c.lines.invariant.1 ∙ read ∙ c.in-Err.ensures, subst (AreClearTo cert) (sym c.lines.invariant.1) c.lines.invariant.2)

pub returns-in-Err-clause-accepted : goal.returns-in-Err-clause-accepted
returns-in-Err-clause-accepted c =
    let cert = c.args.cert.now in
    let i = c.lines.line-index in
    let at = next_line cert c.line-item.result c.as_slice-line-items.ensures c.lines-test.true c.line-item.is in
    let read = line_reason cert i c.line-item.result at c.lines.invariant.0 in
    (λ x. absurd x, λ accepted. cc (sym (accepted i) ∙ read ∙ c.in-Err.ensures))

pub overflow_add-number : goal.overflow_add-number
overflow_add-number c =
    let l = is_line c.args.cert.now c.as_slice-line-items.ensures c.lines-test.true in
    let m = few_lines c.args.cert.now.version in omega (arith, c.lines.invariant.1, c.requires.1, l, m)

pub lines-preserved : goal.lines-preserved
lines-preserved c =
    let cert = c.args.cert.now in
    let i = c.lines.line-index in
    let item = c.line-item.result in
    let at = next_line cert item c.as_slice-line-items.ensures c.lines-test.true c.line-item.is in
    let read = line_reason cert i item at c.lines.invariant.0 in
    let more : suc i ≡ i + 1 = omega arith in (
      c.in_ok-keep-in-Ok.ensures ∙ ap (λ n. context_after n item) c.lines.invariant.0
          ∙ sym (context_step cert i item at) ∙ ap (context_at cert) more,
      ap (λ v. v + 1) c.lines.invariant.1,
      clear_more cert i c.lines.invariant.2 (read ∙ c.in-Ok.ensures.0),
    )

pub returns-clause-verdict : goal.returns-clause-verdict
returns-clause-verdict c =
    let cert = c.args.cert.now in
    let read = all_read cert c.as_slice-line-items.ensures c.lines.auto.line-index-end c.lines-test.false c.lines.invariant in
    let claimed = claim_reason cert read.0 in
    elim c.match-claimed.branch [
      | in-Ok-claimed w ↦ subst (λ v. IsVerdict cert v) (sym w.result-is) (
        all_clear cert read.2 (claimed ∙ w.in-Ok-claimed.ensures.0),
        refl,
        _,
        ap (λ n. entry_at n cert.entry) (sym read.0) ∙ w.in-Ok-claimed.ensures.1,
        refl,
      )
      | in-Err-claimed w ↦ subst (λ v. IsVerdict cert v) (sym w.result-is) (
        ap (reason_at cert) read.1 ∙ claimed ∙ w.in-Err-claimed.ensures,
        subst (AreClearTo cert) (sym read.1) read.2,
      )
    ]

pub returns-clause-accepted : goal.returns-clause-accepted
returns-clause-accepted c =
    let cert = c.args.cert.now in
    let read = all_read cert c.as_slice-line-items.ensures c.lines.auto.line-index-end c.lines-test.false c.lines.invariant in
    let claimed = claim_reason cert read.0 in
    elim c.match-claimed.branch [
      | in-Ok-claimed w ↦ (λ y. all_clear cert read.2 (claimed ∙ w.in-Ok-claimed.ensures.0), λ accepted. subst IsYes (sym w.result-is) tt)
      | in-Err-claimed w ↦ (
        λ y. absurd (subst IsYes w.result-is y),
        λ accepted. absurd
            (cc (sym (accepted (length cert.lines)) ∙ claimed ∙ w.in-Err-claimed.ensures)),
      )
    ]

pub returns-clause-wins : goal.returns-clause-wins
returns-clause-wins c y =
    let cert = c.args.cert.now in
    let read = all_read cert c.as_slice-line-items.ensures c.lines.auto.line-index-end c.lines-test.false c.lines.invariant in
    let claimed = claim_reason cert read.0 in
    let accepted : Accepted cert = elim c.match-claimed.branch [
      | in-Ok-claimed w ↦ all_clear cert read.2 (claimed ∙ w.in-Ok-claimed.ensures.0)
      | in-Err-claimed w ↦ absurd (subst IsYes w.result-is y)
    ] in
    c.accepted_certificates_win.ensures.wins cert c.boards_are_positions.ensures accepted
