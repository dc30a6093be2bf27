use Rattle.hex_cells.proofs.Bits.{has_none}
use Rattle.hex_cells.proofs.sets.CellSet.none.Goals as goal

pub returns-clause-items : goal.returns-clause-items
returns-clause-items c = λ k. has_none k
