use Rattle.std.proofs.Common.{arith}
use Rattle.hex_io.proofs.GaveLaws.{Gave-take, Gave-proper}
use Rattle.hex_io.proofs.giving.give.Goals as goal

pub loop-at-preserved : goal.loop-at-preserved
loop-at-preserved g c = record {
  in_bytes = omega (arith, c.in-Ok.ensures.bound);
  gave = Gave-take _ _ _ c.args.bytes.now c.loop-at.at c.in-Ok.count c.loop-at.invariant.gave c.in-Ok.ensures.told;
  kept = omega (arith, c.in-Ok.ensures.cause.kept);
  reads = grind arith;
}

pub returns-in-Err-clause-proper : goal.returns-in-Err-clause-proper
returns-in-Err-clause-proper g c
    = Gave-proper _ _ _ c.args.bytes.now c.loop-at.at c.loop-at-test.true c.loop-at.invariant.gave c.in-Err.ensures.told
