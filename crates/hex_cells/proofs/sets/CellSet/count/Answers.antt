use Rattle.std.proofs.Common.{sym}
use Rattle.hex_cells.proofs.Counts.{members_all, members_few}
use Rattle.hex_cells.proofs.sets.CellSet.count.Goals as goal

pub returns : goal.returns
returns c = let e = members_all c.self.inside.bits c.self.invariant in record {
  value = cc e;
  range = rw (sym e) (members_few c.self.inside.bits 121);
}
