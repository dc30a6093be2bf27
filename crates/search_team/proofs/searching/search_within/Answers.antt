-- The tree of the search in the narrow shape is that of the whole.
use Rattle.std.proofs.Common.{sym, subst}
use Rattle.tree_words.specs.Settings.{Setting}
use Rattle.tree_words.specs.Areas.{IsNarrower}
use Rattle.search_team.proofs.Narrow.{whole_tree}
use Rattle.search_team.proofs.searching.search_within.Goals as goal

pub widened-requires : goal.widened-requires
widened-requires g c = subst (λ (t : Setting). IsNarrower t c.args.shape.now)
    (sym c.in_ok-closed.ensures.shape) c.narrowed-narrow.ensures.narrower

pub returns-in-Some-clause-one : goal.returns-in-Some-clause-one
returns-in-Some-clause-one g c =
    whole_tree c.args.shape.now c.narrowed-narrow.result c.in_ok-closed.closed c.in-Some.whole c.narrowed-narrow.ensures.narrower
    c.in_ok-closed.ensures.shape c.in_ok-closed.ensures.one c.in_ok-closed.ensures.next c.in-Some.ensures.words c.in-Some.ensures.inside
