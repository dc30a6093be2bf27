-- The search was one of the smaller shape.
use Rattle.std.proofs.Common.{sym, subst}
use Rattle.tree_words.specs.Settings.{Setting}
use Rattle.tree_words.specs.Areas.{IsNarrower}
use Rattle.search_tests.proofs.of_tree_words.searched_narrow.Goals as goal

pub widened-requires : goal.widened-requires
widened-requires c = subst (λ (t : Setting). IsNarrower t c.args.shape.now) (sym c.in_ok-narrow.ensures.shape) c.narrowed-small.ensures.narrower
