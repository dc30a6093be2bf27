-- The walker has run to where the scan stands.
use Rattle.std.proofs.Common.{◌≡◌, ◌≤◌}
use Rattle.walker.specs.Machine.{with_scan}
use Rattle.walker.specs.Choosing.{MayChoose}
use Rattle.walker.specs.declared.stages.Stage.TheVariants.{Scanning}
use Rattle.walker.specs.declared.scans.Phase.TheVariants.{Move}
use Rattle.tree_rule.specs.Seats.{IsOf}
use Rattle.search_team.specs.WorkLeft.{work_left}
use Rattle.search_team.specs.Runs.{HasRun}
use Rattle.search_team.proofs.scanning.look_at_children.Given as goal

abbrev pub invariant-rest : goal.invariant-rest
invariant-rest l = record {
  own : IsOf l.tree l.seat;
  owed : l.seat.owed ≡ l.fn.seat.owed;
  stage : l.walker.stage ≡ Scanning;
  phase : l.scan.phase ≡ Move;
  run : HasRun l.fn.walker l.fn.seat.view (with_scan l.walker l.scan) l.seat.view;
  last : l.scan.count ≤ l.scan.place → MayChoose (record l.walker { scan = l.scan });
}

abbrev pub decreases-rest : goal.decreases-rest
decreases-rest l = work_left (with_scan l.walker l.scan) l.seat.view
