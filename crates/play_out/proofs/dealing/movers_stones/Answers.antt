-- The cells are those of the order in which the playout fills them.
use Rattle.std.proofs.Common.{◌≡◌, ◌∙◌, ap, subst, sym, take}
use Rattle.hex_board.specs.Positions.{stones_of}
use Rattle.play_out.specs.Fills.{ListsEmpties, order_of, filled, filled_by}
use Rattle.play_out.proofs.Shuffles.{dealt}
use Rattle.play_out.proofs.Counting.{empties_listed, empties_moved}
use Rattle.play_out.proofs.dealing.movers_stones.Goals as goal

ordered : (c : goal.After-cells-3-1)
    → c.deal.new.cells ≡ order_of c.args.board.now c.args.seed c.args.k
ordered c = dealt _ _ _ _ c.seed_from_u64-generator.result _ c.list_empties-count.ensures.list c.seed_from_u64-generator.ensures c.deal.ensures.order

pub returns-clause-value : goal.returns-clause-value
unfolding filled
returns-clause-value c = c.deal.ensures.stones
    ∙ ap (λ v. stones_of (filled_by c.args.board.now c.args.to_move v) c.args.to_move) (ordered c)

pub returns-clause-empties : goal.returns-clause-empties
returns-clause-empties c =
    subst (λ v. ListsEmpties c.args.board.now v) (ordered c)
    (empties_moved c.args.board.now (take c.list_empties-count.result c.list_empties-count.new.cells) c.deal.new.cells c.deal.ensures.same
    (subst (λ v. ListsEmpties c.args.board.now v) (sym c.list_empties-count.ensures.list) (empties_listed c.args.board.now)))
