use Rattle.std.proofs.Common.{◌≡◌, take}
use Rattle.sgf_game.specs.Lines.{nodes_lent}
use Rattle.sgf_game.specs.Turns.{turns_of}
use Rattle.sgf_game.proofs.turns.turns_of.Given as goal

abbrev pub invariant-loop-node : goal.invariant-loop-node
invariant-loop-node l = l.turns.items ≡ turns_of l.size (nodes_lent (take l.node-index l.line))
