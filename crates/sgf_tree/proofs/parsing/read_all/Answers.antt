use Rattle.std.proofs.Common.{◌<◌, length, arith}
use Rattle.sgf_tree.specs.ReadingStates.{state_of}
use Rattle.sgf_tree.proofs.Going.{too_many_at, goes_on}
use Rattle.sgf_tree.proofs.parsing.read_all.Goals as goal

pub returns-in-Err-TooDeep : goal.returns-in-Err-TooDeep
returns-in-Err-TooDeep c =
    let within : c.loop-at.at < length c.args.bytes.now = grind arith in
    let many = rw c.in-Err-TooDeep.field-0-is at c.in-Err-TooDeep.ensures in
    too_many_at c.args.bytes.now c.loop-at.at 0
    (state_of c.loop-at.reading) within c.loop-at.invariant many

pub loop-at-preserved : goal.loop-at-preserved
loop-at-preserved c =
    let within : c.loop-at.at < length c.args.bytes.now = grind arith in
    let done = c.in-Ok.ensures in
    goes_on c.args.bytes.now c.loop-at.at 0 (state_of c.loop-at.reading)
    (state_of c.read.new.self) within c.loop-at.invariant done.0 done.1
