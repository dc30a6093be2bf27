use Rattle.std.proofs.Common.{◌-◌}
use Rattle.play_out.proofs.Shuffles.{Shuffling}
use Rattle.play_out.proofs.order.shuffle.Given as goal

abbrev pub invariant-places : goal.invariant-places
invariant-places l = Shuffling l.fn.cells l.fn.generator l.cells l.generator l.i

abbrev pub decreases-places : goal.decreases-places
decreases-places l = l.i - 1
