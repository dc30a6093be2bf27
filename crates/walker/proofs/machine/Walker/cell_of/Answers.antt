-- The cell of a rank stands at that place of the list.
use Rattle.std.proofs.Common.{sym, ap, ◌∙◌, get_or, arith}
use Rattle.hex_board.proofs.Placed.{empty_on}
use Rattle.tree_words.proofs.Boards.EmptyLaws.{count_empties, empties-listed}
use Rattle.walker.proofs.CellLaws.{nth-cell}
use Rattle.walker.proofs.machine.Walker.cell_of.Goals as goal

pub nth-requires : goal.nth-requires
nth-requires c
    = omega (
      arith,
      c.if-place-empty_count.true,
      c.empty_count.ensures.value,
      count_empties c.empties.result c.args.self.now.board c.keeps.ensures.range.1 c.empties.ensures,
    )

pub returns-then-place-empty_count-clause-value : goal.returns-then-place-empty_count-clause-value
returns-then-place-empty_count-clause-value c =
    c.number.ensures.value
    ∙ sym (nth-cell c.empties.result c.args.self.now.board.size c.nth.result c.args.place
    (λ k t. empty_on c.args.self.now.board k (sym (c.empties.ensures k) ∙ t)) c.nth.ensures.inside c.nth.ensures.order)
    ∙ ap (λ cs. get_or cs c.args.place 0)
    (empties-listed c.empties.result c.args.self.now.board c.empties.ensures)
