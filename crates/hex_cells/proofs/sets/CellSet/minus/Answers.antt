use Rattle.std.proofs.Common.{◌-◌, ◌^◌, arith, sym}
use Rattle.std.proofs.lemmas.Nat.{and_le_l}
use Rattle.hex_cells.proofs.Bits.{has_minus, minus_value}
use Rattle.hex_cells.proofs.sets.CellSet.minus.Goals as goal

pub returns : goal.returns
returns c = record {
  value = cc (minus_value c.self.inside.bits c.other.inside.bits c.self.invariant c.other.invariant);
  shrinks = rw (sym c.self.view_is) (and_le_l c.self.inside.bits _);
  small = omega (arith, and_le_l c.self.inside.bits (2 ^ 128 - 1 - c.other.inside.bits), c.self.invariant);
  items = λ k. cc
      (has_minus c.self.inside.bits c.other.inside.bits k c.self.invariant c.other.invariant);
}
