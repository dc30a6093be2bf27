use Rattle.std.proofs.Common.{◌≡◌, ℕ, ◌&&◌, ◌==◌, not, ◌≤◌, ◌-◌, ◌^◌, arith, sym, ap, ◌∙◌, bit_and}
use Rattle.std.proofs.lemmas.Nat.{and_le_l}
use Rattle.hex_cells.specs.Sets.{has}
use Rattle.hex_cells.proofs.Bits.{has_minus, minus_value, cleared_less}
use Rattle.hex_cells.proofs.WithCell.{has_pow}
use Rattle.hex_cells.proofs.sets.CellSet.without.Goals as goal

pub returns : goal.returns
returns c =
    let a = c.self.inside.bits in
    let s = c.single.result in
    let l = c.single.ensures.range in
    let e = c.single.ensures.value in
    let k = c.args.cell in
    let r : bit_and a (2 ^ 128 - 1 - s) ≤ a = and_le_l a (2 ^ 128 - 1 - s) in
    let items : (j : ℕ) → has (bit_and a (2 ^ 128 - 1 - s)) j ≡ (has a j && not (j == k))
    = λ j. has_minus a s j c.self.invariant l
    ∙ ap (λ v. has a j && not v) (ap (λ v. has v j) e ∙ has_pow k j) in
    rw (sym c.self.view_is) (record {
      value = cc (minus_value a s c.self.invariant l, e);
      shrinks = r;
      fewer = cleared_less a (bit_and a (2 ^ 128 - 1 - s)) k r (items k);
      small = omega (arith, r, c.self.invariant);
      items = items;
    })
