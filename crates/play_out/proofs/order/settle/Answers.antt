-- One word more, and the places of the swap are no later ones.
use Rattle.std.proofs.Common.{◌≡◌, arith, ◌∙◌, ap, drop, ◌+◌, ◌-◌}
use Rattle.std.specs.List.{swap}
use Rattle.std.proofs.Math.ListN.{set}
use Rattle.std.proofs.lemmas.List.Sorted.{IsPermutation-swap}
use Rattle.play_out.proofs.Shuffles.{step_at, drop-swap, swapped, swapped_first}
use Rattle.play_out.proofs.order.settle.Goals as goal

-- the two writes are a swap
swap_of : (c : goal.After-index-cells-i)
    → set (set c.args.cells.now c.args.i c.index-cells-from.result) c.place-from.result c.index-cells-i.result
    ≡ swap c.args.cells.now c.args.i c.place-from.result
swap_of c = swapped c.args.cells.now c.args.i c.place-from.result c.index-cells-from.result c.index-cells-i.result (omega (
  arith,
  c.requires.place.1,
)) (omega (arith, c.requires.place.1, c.place-from.ensures.range))
    c.index-cells-from.is c.index-cells-i.is

pub returns-clause-order : goal.returns-clause-order
returns-clause-order c
    = step_at c.args.i
    (c.args.i - 1) _ _ c.args.cells.now _ c.next_u64-word.result c.place-from.result
    (omega (arith, c.requires.place.0))
    c.next_u64-word.ensures c.place-from.ensures.value (swap_of c)

pub returns-clause-same : goal.returns-clause-same
returns-clause-same c = IsPermutation-swap c.args.cells.now _ c.args.i c.place-from.result
    (omega (arith, c.requires.place.1))
    (omega (arith, c.requires.place.1, c.place-from.ensures.range)) (swap_of c)

pub returns-clause-later : goal.returns-clause-later
returns-clause-later c = ap (drop (c.args.i + 1)) (swap_of c)
    ∙ drop-swap c.args.cells.now c.args.i c.place-from.result (c.args.i + 1) (omega arith)
    (omega (arith, c.place-from.ensures.range))

pub returns-clause-cell : goal.returns-clause-cell
returns-clause-cell c
    = swapped_first c.args.cells.now c.args.i c.place-from.result c.index-cells-from.result c.index-cells-i.result (omega (
      arith,
      c.requires.place.1,
    )) (omega (arith, c.requires.place.1, c.place-from.ensures.range))
    c.index-cells-from.is c.index-cells-i.is
