use Rattle.std.proofs.Common.{◌≡◌, ◌∙◌, ap, subst, sym, length, take, drop}
use Rattle.std.proofs.lemmas.List.Sorted.{length_permutation}
use Rattle.play_out.specs.Fills.{ListsEmpties}
use Rattle.play_out.proofs.Shuffles.{front_is, dealt}
use Rattle.play_out.proofs.Counting.{empties_listed, empties_moved}
use Rattle.play_out.proofs.order.write_order.Goals as goal

-- the shuffled cells are as many as the empty cells
as_many : (c : goal.After-cells-1) → length c.shuffle.new.cells ≡ c.list_empties-count.result
as_many c = length_permutation
    (take c.list_empties-count.result c.list_empties-count.new.cells) c.shuffle.new.cells c.shuffle.ensures.same
    ∙ (ap length c.list_empties-count.ensures.list ∙ sym c.list_empties-count.ensures.count)

pub returns-clause-order : goal.returns-clause-order
returns-clause-order c =
    front_is _ c.shuffle.new.cells _ (as_many c)
    ∙ dealt _ _ _ _ c.seed_from_u64-generator.result _ c.list_empties-count.ensures.list c.seed_from_u64-generator.ensures c.shuffle.ensures.order

pub returns-clause-empties : goal.returns-clause-empties
returns-clause-empties c =
    subst (λ v. ListsEmpties c.args.board.now v)
    (sym (front_is _ c.shuffle.new.cells (drop c.list_empties-count.result c.list_empties-count.new.cells) (as_many c)))
    (empties_moved c.args.board.now (take c.list_empties-count.result c.list_empties-count.new.cells) c.shuffle.new.cells c.shuffle.ensures.same
    (subst (λ v. ListsEmpties c.args.board.now v) (sym c.list_empties-count.ensures.list) (empties_listed c.args.board.now)))
