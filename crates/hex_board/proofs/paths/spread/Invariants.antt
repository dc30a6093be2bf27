use Rattle.std.proofs.Common.{◌-◌, ◌^◌}
use Rattle.hex_board.proofs.Reach.{Reached}
use Rattle.hex_board.proofs.paths.spread.Given as goal

abbrev pub invariant-spread : goal.invariant-spread
invariant-spread l = Reached l.size l.stones l.fn.goal l.reach

abbrev pub decreases-spread : goal.decreases-spread
decreases-spread l = 2 ^ 121 - l.reach
