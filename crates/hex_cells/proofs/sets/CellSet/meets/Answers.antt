use Rattle.std.proofs.Common.{sym}
use Rattle.hex_cells.proofs.Shared.{meets_test}
use Rattle.hex_cells.proofs.sets.CellSet.meets.Goals as goal

pub returns : goal.returns
returns c = rw (sym c.self.view_is, sym c.other.view_is)
    (meets_test c.self.inside.bits c.other.inside.bits c.self.invariant)
