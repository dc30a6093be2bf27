use Rattle.hex_cells.proofs.Bits.{has_test}
use Rattle.hex_cells.proofs.sets.CellSet.has.Goals as goal

pub returns : goal.returns
returns c = cc (has_test c.self.inside.bits c.number.result)
