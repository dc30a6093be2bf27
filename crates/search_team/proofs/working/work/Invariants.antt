-- The seat's view belongs to the walker, and the table has what the seat owes.
use Rattle.std.proofs.Common.{◌≡◌, None}
use Rattle.walker.specs.Belongs.{Belongs}
use Rattle.tree_rule.specs.Seats.{IsOf}
use Rattle.search_team.specs.WorkLeft.{work_left}
use Rattle.search_team.specs.Debts.{HoldsDebts}
use Rattle.search_team.proofs.working.work.Given as goal

abbrev pub invariant-steps : goal.invariant-steps
invariant-steps g l = record {
  own : IsOf l.tree l.seat;
  belongs : Belongs l.walker l.seat.view;
  lone : l.seat.view.whole ≡ None;
  debts : HoldsDebts l.tree.shape l.sums l.seat.owed;
}

abbrev pub decreases-steps : goal.decreases-steps
decreases-steps g l = work_left l.walker l.seat.view
