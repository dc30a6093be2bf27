-- The spent view that a join picks.
use Rattle.arena_rule.specs.Views.{spent_view}
use Rattle.tree_rule.proofs.seats.TreeSeat.join.Given as goal

abbrev pub ghosts-merge : goal.ghosts-merge
ghosts-merge a = record { spent = spent_view a.seat.now.me.0.view.shape }
