use Rattle.std.proofs.Common.{◌≡◌, ◌+◌, ◌*◌}
use Rattle.hex_board.specs.Wins.{empty_count}
use Rattle.hex_solve.proofs.Trying.{IsTrying}
use Rattle.hex_solve.proofs.plain_search.+search.Given as goal

abbrev pub decreases-position : goal.decreases-position
decreases-position l = 2 * empty_count l.board.now + 1

abbrev pub decreases-moves : goal.decreases-moves
decreases-moves l = 2 * empty_count l.board.now

abbrev pub decreases-moves-cells : goal.decreases-moves-cells
decreases-moves-cells l = l.cells

abbrev pub invariant-moves-cells : goal.invariant-moves-cells
invariant-moves-cells l = record {
  trying : IsTrying l.board l.fn.mover l.own l.initial.other l.other l.initial.left l.left l.cases.items l.cells;
  same : l.own ≡ l.initial.own;
}
