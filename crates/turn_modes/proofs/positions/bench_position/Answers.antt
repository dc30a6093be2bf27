use Rattle.std.proofs.Common.{◌≡◌, take, length, subst, ap, ◌∙◌}
use Rattle.play_out.specs.Fills.{ListsEmpties, order_of}
use Rattle.turn_modes.specs.Positions.{IsPlacedOn, shuffled_cells}
use Rattle.turn_modes.proofs.Orders.{all_cells}
use Rattle.turn_modes.proofs.positions.bench_position.Goals as goal

pub place_stones-requires-clause-once : goal.place_stones-requires-clause-once
place_stones-requires-clause-once c =
    subst (λ p. ListsEmpties p (take c.write_order-count.result c.write_order-count.new.cells))
    c.empty.ensures.value c.write_order-count.ensures.empties

-- the first cells are the shuffled cells
shuffled : (c : goal.After-place_stones-arg-1)
    → take c.write_order-count.result c.write_order-count.new.cells ≡ shuffled_cells c.args.size
    c.args.seed
shuffled c = c.write_order-count.ensures.order
    ∙ ap (λ p. order_of p c.args.seed 0) c.empty.ensures.value

pub place_stones-requires-clause-many : goal.place_stones-requires-clause-many
place_stones-requires-clause-many c = ap length (shuffled c) ∙ all_cells c.args.size c.args.seed

pub returns-clause-is : goal.returns-clause-is
returns-clause-is c =
    subst (λ xs. IsPlacedOn c.args.size xs c.place_stones.result)
    (c.write_order-count.ensures.order
    ∙ ap (λ p. order_of p c.args.seed 0) c.empty.ensures.value)
    c.place_stones.ensures.placed
