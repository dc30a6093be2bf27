-- The walker has run on from where the climb stood to where it stands.
use Rattle.std.proofs.Common.{◌≡◌, ◌≢◌, ◌<◌, []}
use Rattle.walker.specs.Machine.{with_climb}
use Rattle.walker.specs.declared.TheConstants.{PAST_WORDS}
use Rattle.tree_rule.specs.Seats.{IsOf}
use Rattle.search_team.specs.WorkLeft.{work_left}
use Rattle.search_team.specs.Runs.{HasRun}
use Rattle.search_team.specs.Debts.{HoldsDebts}
use Rattle.search_team.proofs.climbing.add_half.Given as goal

abbrev pub invariant-adds : goal.invariant-adds
invariant-adds l = record {
  own : IsOf l.tree l.seat;
  debts : HoldsDebts l.tree.shape l.sums l.seat.owed;
  run : HasRun (with_climb l.walker l.fn.climb) l.fn.seat.view
      (with_climb l.walker l.climb) l.seat.view;
  node : l.climb ≡ [] → l.fn.climb ≢ [] → l.walker.node < PAST_WORDS;
}

abbrev pub decreases-adds : goal.decreases-adds
decreases-adds l = work_left (with_climb l.walker l.climb) l.seat.view
