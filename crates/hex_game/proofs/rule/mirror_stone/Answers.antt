use Rattle.std.proofs.Common.{◌<◌, ◌≤◌, sym, subst, arith}
use Rattle.hex_cells.proofs.WithCell.{members_some, with_cell-here}
use Rattle.hex_cells.specs.Sets.{members, with_cell}
use Rattle.hex_cells.proofs.Tables.{board_cell}
use Rattle.hex_game.proofs.rule.mirror_stone.Goals as goal

pub returns-clause-some : goal.returns-clause-some
returns-clause-some c =
    let l : c.at-mirrored.result < 121
    = board_cell c.size-size.result c.at-mirrored.result c.size-size.ensures.range.1 c.at-mirrored.ensures.on_board in
    let m : 1 ≤ members c.with.result 121
    = subst (λ s. 1 ≤ members s 121) (sym c.with.ensures.value)
    (members_some (with_cell c.none-2.result c.at-mirrored.result) c.at-mirrored.result 121 (with_cell-here c.none-2.result c.at-mirrored.result) l) in
    rw c.of.ensures (omega (arith, m))
