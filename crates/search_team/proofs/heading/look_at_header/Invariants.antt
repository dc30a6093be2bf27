-- The walker has made some looks at a header.
use Rattle.std.proofs.Common.{◌≡◌}
use Rattle.tree_rule.specs.Seats.{IsOf}
use Rattle.search_team.specs.WorkLeft.{work_left}
use Rattle.search_team.specs.Runs.{HasRun}
use Rattle.search_team.proofs.heading.look_at_header.Given as goal

abbrev pub invariant-looks : goal.invariant-looks
invariant-looks l = record {
  own : IsOf l.tree l.seat;
  owed : l.seat.owed ≡ l.fn.seat.owed;
  run : HasRun l.fn.walker l.fn.seat.view l.walker l.seat.view;
}

abbrev pub decreases-looks : goal.decreases-looks
decreases-looks l = work_left l.walker l.seat.view
