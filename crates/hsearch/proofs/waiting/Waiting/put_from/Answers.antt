use Rattle.std.proofs.Common.{◌≤◌, length, arith}
use Rattle.hsearch.proofs.Queues.{filled_more, filled_to}
use Rattle.hsearch.proofs.waiting.Waiting.put_from.Goals as goal

pub entries-preserved : goal.entries-preserved
entries-preserved c
    = filled_more c.args.self.now c.entries.self c.put.new.self c.args.first c.entries.number c.entries.invariant c.entries.auto.number c.in_ok-put.ensures

pub returns : goal.returns
returns c =
    let l : c.entries.number ≤ length c.args.entries.now
    = c.entries.auto.number-end c.requires.first in
    filled_to c.args.self.now c.entries.self c.args.first c.entries.number
    (length c.args.entries.now) c.entries.invariant (omega (arith, c.entries-test.false))
