use Rattle.std.proofs.Common.{sym, subst, arith}
use Rattle.trace_audit.specs.declared.sites.Site.{Site}
use Rattle.trace_audit.specs.Points.{AreFrugal}
use Rattle.trace_audit.proofs.Matches.{if_no}
use Rattle.trace_audit.proofs.growth.each_frugal.Goals as goal

pub returns-then-not-has_few_leaves : goal.returns-then-not-has_few_leaves
returns-then-not-has_few_leaves c =
    let w = if_no c.has_few_leaves.result _ _ c.has_few_leaves.ensures c.if-not-has_few_leaves.true in (
      c.sites.i,
      c.index.result.now,
      omega (arith, c.sites-test.true, c.len-i-end.ensures, c.args.table.now.sites.ok.0),
      λ f.
          w.2 (subst (λ (p : Site). AreFrugal c.args.words.now c.args.sums.now c.args.most p) (sym c.index.ensures) f w.0 w.1),
    )
