-- Between two steps.
use Rattle.tree_rule.specs.Seats.{IsOf}
use Rattle.walker.specs.Belongs.{Belongs}
use Rattle.search_tests.proofs.of_walker.makes.Given as goal

abbrev pub invariant-lines : goal.invariant-lines
invariant-lines l = record {
  own : IsOf l.tree l.seat;
  belongs : Belongs l.walker l.seat.view;
}
