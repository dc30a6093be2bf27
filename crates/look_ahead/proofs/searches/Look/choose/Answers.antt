use Rattle.std.proofs.Common.{arith}
use Rattle.look_ahead.proofs.Ranks.{look_within}
use Rattle.look_ahead.proofs.searches.Look.choose.Goals as goal

pub returns : goal.returns
returns g c =
    look_within c.args.root.now.board.now c.args.root.now.colour c.args.must c.len-nodes.result
    c.args.budget c.in_ok-looked.looked (omega (arith, c.len-nodes.ensures, c.batches.invariant.few))
    c.in_ok-looked.ensures
