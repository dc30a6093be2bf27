-- The add fits, and is a step of the walker.
use Rattle.std.proofs.Common.{refl, sym, ap, ◌∙◌}
use Rattle.walker.specs.Machine.{with_climb}
use Rattle.search_team.proofs.Going.{run-begins, fits-next, can-next, goes}
use Rattle.search_team.proofs.SeenAdds.{next-add, node-small, seen-add}
use Rattle.search_team.proofs.climbing.add.Goals as goal

pub make_or_owe-answer-requires-clause-fits : goal.make_or_owe-answer-requires-clause-fits
make_or_owe-answer-requires-clause-fits c
    = fits-next (run-begins refl c.requires.belongs)
    (next-add c.args.walker.now c.args.climb.now c.requires.more c.op.ensures)

pub make_or_owe-answer-requires-clause-seen : goal.make_or_owe-answer-requires-clause-seen
make_or_owe-answer-requires-clause-seen c word won e
    = seen-add c.args.walker.now c.args.climb.now c.args.seat.now.view c.requires.belongs word won (sym c.op.ensures ∙ e)

pub returns-clause-gone : goal.returns-clause-gone
returns-clause-gone c
    = goes (run-begins refl c.requires.belongs)
    (next-add c.args.walker.now c.args.climb.now c.requires.more c.op.ensures)
    c.make_or_owe-answer.ensures.answer (ap (with_climb c.args.walker.now) c.got.ensures) c.make_or_owe-answer.ensures.view

pub returns-clause-node : goal.returns-clause-node
returns-clause-node c
    = node-small c.args.walker.now c.args.climb.now c.make_or_owe-answer.result c.requires.more
    (can-next (run-begins refl c.requires.belongs)
    (next-add c.args.walker.now c.args.climb.now c.requires.more c.op.ensures) c.make_or_owe-answer.ensures.answer)
