use Rattle.std.proofs.Common.{◌≡◌, drop, map}
use Rattle.hex_cells.specs.Vertices.{vertex_cell}
use Rattle.sgf_game.specs.Values.{trimmed}
use Rattle.sgf_game.specs.Placing.{placed_on}
use Rattle.sgf_game.proofs.setup.with_values.Given as goal

abbrev pub invariant-loop-value : goal.invariant-loop-value
invariant-loop-value l
    = placed_on l.taken l.all (map (vertex_cell l.size) (map trimmed (drop l.value-index l.values)))
    ≡ placed_on l.taken l.fn.stones (map (vertex_cell l.size) (map trimmed l.values))
