use Rattle.std.proofs.Common.{◌≡◌, length}
use Rattle.sgf_game.specs.Values.{without_front_space}
use Rattle.sgf_game.proofs.values.without_front_space.Given as goal

abbrev pub invariant-loop-rest : goal.invariant-loop-rest
invariant-loop-rest l = without_front_space l.rest ≡ without_front_space l.fn.text

abbrev pub decreases-loop-rest : goal.decreases-loop-rest
decreases-loop-rest l = length l.rest
