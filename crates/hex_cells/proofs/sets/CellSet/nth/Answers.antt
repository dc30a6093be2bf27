use Rattle.std.proofs.Common.{◌+◌, ◌<◌, sym, subst}
use Rattle.hex_cells.specs.Sets.{members}
use Rattle.hex_cells.proofs.Bits.{cell_below}
use Rattle.hex_cells.proofs.HalfBits.{in_low, in_high, found_low, found_high}
use Rattle.hex_cells.proofs.sets.CellSet.nth.Goals as goal

pub place_in-requires : goal.place_in-requires
place_in-requires c = in_low c.self.inside.bits c.args.k c.if-k-in_low.true

-- the cell is in the lower half
pub returns-then-k-in_low : goal.returns-then-k-in_low
returns-then-k-in_low c =
    let t = found_low c.self.inside.bits c.place_in.result c.args.k c.place_in.ensures.range c.place_in.ensures.inside c.place_in.ensures.order in
    record { inside = cc t.0; order = cc t.1 }

pub place_in-requires-2 : goal.place_in-requires-2
place_in-requires-2 c = in_high c.self.inside.bits c.args.k c.if-k-in_low.false
    (subst (λ v. c.args.k < members v 121) (sym c.self.view_is) c.requires)

pub numbered-requires-2 : goal.numbered-requires-2
numbered-requires-2 c
    = cell_below c.self.inside.bits 121 (64 + c.place_in-2.result) c.self.invariant
    ((found_high c.self.inside.bits c.place_in-2.result c.args.k c.if-k-in_low.false c.place_in-2.ensures.inside c.place_in-2.ensures.order).0)

-- or in the upper one
pub returns : goal.returns
returns c =
    let t = found_high c.self.inside.bits c.place_in-2.result c.args.k c.if-k-in_low.false c.place_in-2.ensures.inside c.place_in-2.ensures.order in
    record { inside = cc t.0; order = cc t.1 }
