use Rattle.std.proofs.Common.{◌≡◌, subst}
use Rattle.hex_cells.specs.Sets.{has}
use Rattle.hex_board.specs.Elements.{PlayerBoard, is_linked}
use Rattle.hex_board.proofs.Parts.{flood_linked}
use Rattle.hex_board.proofs.numbering.Numbering.linked.Goals as goal

pub returns : goal.returns
returns c = λ k.
    let e : PlayerBoard = record { board = c.self.inside.board; player = c.self.inside.colour } in
    subst (λ v. has c.flood.result k ≡ is_linked v k c.args.cell) c.self.view_is
    (flood_linked e c.with.result c.none.result c.flood.result c.args.cell k c.self.invariant.on_board c.with.ensures.items c.none.ensures.items
    (rw (← c.size.ensures.value, ← c.stones-stones.ensures.value) (c.flood.ensures k)))
