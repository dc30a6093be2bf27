-- The walker has run on from where the scan stood to where it stands.
use Rattle.std.proofs.Common.{◌≡◌, ◌≤◌}
use Rattle.walker.specs.Machine.{with_scan}
use Rattle.walker.specs.Choosing.{MayChoose}
use Rattle.walker.specs.declared.scans.Phase.TheVariants.{Move}
use Rattle.tree_rule.specs.Seats.{IsOf}
use Rattle.search_team.specs.WorkLeft.{work_left}
use Rattle.search_team.specs.Runs.{HasRun}
use Rattle.search_team.proofs.scanning.look_while_choosing.Given as goal

abbrev pub invariant-looks : goal.invariant-looks
invariant-looks l = record {
  own : IsOf l.tree l.seat;
  owed : l.seat.owed ≡ l.fn.seat.owed;
  phase : l.scan.phase ≡ Move;
  run : HasRun (with_scan l.walker l.fn.scan) l.fn.seat.view
      (with_scan l.walker l.scan) l.seat.view;
  last : l.scan.count ≤ l.scan.place → MayChoose (record l.walker { scan = l.scan });
}

abbrev pub decreases-looks : goal.decreases-looks
decreases-looks l = work_left (with_scan l.walker l.scan) l.seat.view
