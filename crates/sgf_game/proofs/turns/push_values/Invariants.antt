use Rattle.std.proofs.Common.{◌≡◌, ◌++◌, map, take}
use Rattle.sgf_game.specs.Lines.{entry}
use Rattle.sgf_game.specs.Turns.{turn_of}
use Rattle.sgf_game.proofs.turns.push_values.Given as goal

abbrev pub invariant-loop-value : goal.invariant-loop-value
invariant-loop-value l = l.turns.items ≡ l.initial.turns.items ++ map (turn_of l.size l.alone)
    (map (entry l.colour) (take l.value-index l.values))
