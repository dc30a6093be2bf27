use Rattle.std.proofs.Common.{◌≡◌, ◌++◌, map, flat_map, take}
use Rattle.sgf_game.specs.Lines.{entries_if}
use Rattle.sgf_game.specs.Turns.{turn_of}
use Rattle.sgf_game.proofs.turns.push_node.Given as goal

abbrev pub invariant-loop-prop : goal.invariant-loop-prop
invariant-loop-prop l = l.turns.items ≡ l.initial.turns.items ++ map (turn_of l.size l.alone)
    (flat_map entries_if (take l.prop-index l.node.props))
