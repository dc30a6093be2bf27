use Rattle.std.proofs.Common.{ap, ◌∙◌}
use Rattle.hex_board.specs.Joined.{winner_of}
use Rattle.hex_board.proofs.EmptyBoards.{empty_open}
use Rattle.hex_board.proofs.boards.Board.empty.Goals as goal

pub returns-clause-nobody : goal.returns-clause-nobody
returns-clause-nobody c =
    ap winner_of
    (c.of.ensures ∙ (λ i. record { size = c.args.size; black = c.none.ensures.value i; white = c.none-2.ensures.value i }))
    ∙ empty_open c.args.size
