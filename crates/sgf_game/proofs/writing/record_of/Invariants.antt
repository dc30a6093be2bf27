use Rattle.std.proofs.Common.{◌≡◌, ◌∷◌, map, take}
use Rattle.sgf_game.specs.Record.{root_of, node_of_step}
use Rattle.sgf_game.proofs.writing.record_of.Given as goal

abbrev pub invariant-loop-step : goal.invariant-loop-step
invariant-loop-step l = l.nodes.items ≡ root_of l.game.start ∷ map (node_of_step l.size)
    (take l.step-index l.game.steps)
