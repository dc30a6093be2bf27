use Rattle.hex_cells.proofs.Bits.{has_shr}
use Rattle.hex_cells.proofs.sets.CellSet.down.Goals as goal

pub returns : goal.returns
returns c = λ k. cc (has_shr c.self.inside.bits c.args.by k)
