use Rattle.std.proofs.Common.{sym, ◌∙◌, arith}
use Rattle.trace_audit.proofs.Matches.{if_some}
use Rattle.trace_audit.proofs.Skipping.{skip}
use Rattle.trace_audit.proofs.linking.link.Goals as goal

pub words-preserved-then-entry-eq0 : goal.words-preserved-then-entry-eq0
words-preserved-then-entry-eq0 c =
    let i = c.words.invariant.1 in
    let long = i.1.table.long in
    let none = c.entry.ensures in (
      omega (arith, c.words-test.true, c.requires),
      (
        i.0,
        skip c.args.shape.now c.args.words.now c.keeps.ensures.setting c.words.table c.words.at i.0 i.1
            (sym none ∙ c.if-entry-eq0.true),
      ),
    )

pub words-preserved : goal.words-preserved
words-preserved c =
    let i = c.words.invariant.1 in
    let r = if_some c.in_ok-end.field-0 c.in-Some-2.end _ _
    (c.in_ok-end.ensures i.0 i.1) c.in-Some-2.is in
    (r.1, r.2)
