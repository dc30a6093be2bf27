-- Between two steps.
use Rattle.tree_rule.specs.Seats.{IsOf}
use Rattle.walker.specs.Belongs.{Belongs}
use Rattle.search_tests.proofs.of_walker.pass_over.Given as goal

abbrev pub invariant-steps : goal.invariant-steps
invariant-steps l = record {
  own : IsOf l.tree l.seat;
  belongs : Belongs l.walker l.seat.view;
}
