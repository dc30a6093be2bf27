use Rattle.std.proofs.Common.{ap, ◌∙◌}
use Rattle.hex_board.proofs.Tabled.{beside}
use Rattle.hex_board.proofs.numbering.Numbering.beside.Goals as goal

pub returns : goal.returns
returns c = λ k. beside c.args.self.now c.args.element c.cells-cells.result c.around.result c.edges_of.result c.union.result k c.size.result
    (c.size.ensures.value ∙ ap (λ v. v.board.size) c.self.view_is) c.cells-cells.ensures
    (c.around.ensures k) (c.edges_of.ensures k) (c.union.ensures.items k)
