use Rattle.std.proofs.Common.{sym}
use Rattle.hex_cells.proofs.Shared.{empty_test}
use Rattle.hex_cells.proofs.sets.CellSet.is_empty.Goals as goal

pub returns : goal.returns
returns c = rw (sym c.self.view_is) (empty_test c.self.inside.bits)
