use Rattle.hex_cells.proofs.Bits.{has_all, all_below, all_value}
use Rattle.hex_cells.proofs.sets.CellSet.all.Goals as goal

pub invariant_of-result : goal.invariant_of-result
invariant_of-result c = all_below _ c.cells.ensures.range.1

pub returns : goal.returns
returns c = record {
  value = cc (all_value c.cells.result c.cells.ensures.range.1);
  small = all_below _ c.cells.ensures.range.1;
  items = λ k. cc (has_all c.cells.result k c.cells.ensures.range.1);
}
