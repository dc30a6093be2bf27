-- The rest of a script fits after each line.
use Rattle.std.proofs.Common.{false, subst}
use Rattle.std.proofs.lemmas.List.{drop_more}
use Rattle.tree_words.specs.declared.steps.Op.TheVariants.{Draw}
use Rattle.search_tests.specs.Scripts.{both_views, AllFit}
use Rattle.search_tests.proofs.of_tree_rule.scripts.follow.Goals as goal

pub make-requires-clause-fits : goal.make-requires-clause-fits
make-requires-clause-fits c =
    let rest = subst (AllFit (both_views c.loop-line.a c.loop-line.b))
    (drop_more c.args.lines.now c.loop-line.line-index (false, Draw, 0) c.loop-line-test.true) c.loop-line.invariant.fits in
    rest.0
