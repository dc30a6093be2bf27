use Rattle.std.proofs.Common.{◌≡◌, ◌-◌, ◌+◌, arith, sym, ap, ◌∙◌}
use Rattle.hex_cells.specs.Sets.{has}
use Rattle.hex_cells.proofs.Around.{Cuts, gathered, gathered_moved, around_out, around_in}
use Rattle.hex_cells.proofs.sets.CellSet.around.Goals as goal

pub returns : goal.returns
returns c = λ d.
    let k : Cuts c.args.size c.args.self c.all-all.result c.meet-here.result c.minus-left.result c.minus-right.result = record {
      low = omega arith;
      on = c.all-all.ensures.items;
      whole = λ j. cc (c.meet-here.ensures.items j, c.all-all.ensures.items j);
      not_last = λ j. cc
          (c.minus-left.ensures.items j, c.meet-here.ensures.items j, c.all-all.ensures.items j, c.last_column.ensures j);
      not_first = λ j. cc
          (c.minus-right.ensures.items j, c.meet-here.ensures.items j, c.all-all.ensures.items j, c.first_column.ensures j);
    } in
    let b = c.get-by.result - 1 in
    let q : c.get-by.result - 1 ≡ c.args.size - 1 = ap (λ v. v - 1) c.get-by.ensures.value in
    let e : has c.meet.result d ≡ gathered c.args.size c.all-all.result c.meet-here.result c.minus-left.result c.minus-right.result d =
    cc (
      q,
      c.meet.ensures.items d,
      c.union-5.ensures.items d,
      c.union-4.ensures.items d,
      c.union-3.ensures.items d,
      c.up-east.ensures d,
      c.down-west.ensures d,
      c.up-south.ensures d,
      c.union.ensures.items (d - b),
      c.up.ensures (d - b),
      c.down-north.ensures d,
      c.union-2.ensures.items (d + b),
      c.down.ensures (d + b),
    ) in
    let f = e ∙ gathered_moved _ _ _ _ _ _ d k in
    (λ h. around_out _ _ _ _ _ _ d k (sym f ∙ h), λ b. f ∙ around_in _ _ _ _ _ _ d b.0 k b.1 b.2)
