-- A scan that is lent begins where the walker stands.
use Rattle.search_team.proofs.Going.{run-runs}
use Rattle.search_team.proofs.ChildLooks.{scan-begins}
use Rattle.search_team.proofs.scanning.look_at_children.Goals as goal

pub look_while_choosing-requires-clause-belongs : goal.look_while_choosing-requires-clause-belongs
look_while_choosing-requires-clause-belongs c =
    let some = c.in-Some.ensures in
    (scan-begins c.args.walker.now c.args.seat.now.view c.requires.belongs some.0 c.in-Some.scan some.1).belongs

pub rest-init : goal.rest-init
rest-init c =
    let some = c.in-Some.ensures in
    record {
      own = c.look_while_choosing.ensures.own;
      owed = c.look_while_choosing.ensures.owed;
      stage = some.0;
      phase = c.look_while_choosing.ensures.phase;
      run = run-runs (scan-begins c.args.walker.now c.args.seat.now.view c.requires.belongs some.0 c.in-Some.scan some.1)
          c.look_while_choosing.ensures.run;
      last = c.look_while_choosing.ensures.last;
    }
