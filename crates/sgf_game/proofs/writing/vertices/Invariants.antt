use Rattle.std.proofs.Common.{◌≡◌, ◌++◌}
use Rattle.hex_board.specs.Positions.{Within}
use Rattle.hex_cells.specs.Vertices.{vertices_of}
use Rattle.sgf_game.proofs.writing.vertices.Given as goal

abbrev pub invariant-loop-cell : goal.invariant-loop-cell
invariant-loop-cell l = record {
  within : Within l.size l.rest;
  told : l.values.items ++ vertices_of l.size l.rest ≡ vertices_of l.size l.fn.stones;
}

abbrev pub decreases-loop-cell : goal.decreases-loop-cell
decreases-loop-cell l = l.rest
