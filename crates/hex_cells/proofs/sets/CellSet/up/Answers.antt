use Rattle.hex_cells.proofs.Bits.{has_up}
use Rattle.hex_cells.proofs.sets.CellSet.up.Goals as goal

pub returns : goal.returns
returns c = λ k. cc (has_up c.self.inside.bits c.all.inside.bits c.args.by k c.all.invariant)
