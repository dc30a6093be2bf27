use Rattle.std.proofs.lemmas.Nat.{or_lt}
use Rattle.hex_cells.proofs.WithCell.{has_with_cell}
use Rattle.hex_cells.proofs.sets.CellSet.with.Goals as goal

pub invariant_of-result : goal.invariant_of-result
invariant_of-result c
    = or_lt 121 c.self.inside.bits c.single.result c.self.invariant c.single.ensures.range

pub returns : goal.returns
returns c = record {
  value = cc c.single.ensures.value;
  small = or_lt 121 c.self.inside.bits c.single.result c.self.invariant c.single.ensures.range;
  items = λ k. cc (c.single.ensures.value, has_with_cell c.self.inside.bits c.args.cell k);
}
