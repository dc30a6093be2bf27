-- After the join all workers have ended.
use Rattle.std.proofs.Common.{ap, sym, ◌∙◌, subst}
use Rattle.arena_rule.specs.Views.{HasEnded}
use Rattle.search_tests.proofs.OneCell.{all-ended}
use Rattle.search_tests.proofs.of_tree_rule.one_cell.finish.Goals as goal

pub close-requires-clause-all : goal.close-requires-clause-all
close-requires-clause-all c =
    ap (λ v. v.width) c.join.ensures.both ∙ (all-ended c.args.first.view c.args.second.view c.requires.ended).0 ∙ sym
    (ap (λ s. s.knobs.workers) c.requires.shape)

pub close-requires-clause-ended : goal.close-requires-clause-ended
close-requires-clause-ended c = subst HasEnded (sym c.join.ensures.both) (all-ended c.args.first.view c.args.second.view c.requires.ended).1
