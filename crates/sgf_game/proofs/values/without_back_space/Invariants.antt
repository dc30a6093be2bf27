use Rattle.std.proofs.Common.{◌≡◌, length, reverse}
use Rattle.sgf_game.specs.Values.{without_front_space}
use Rattle.sgf_game.proofs.values.without_back_space.Given as goal

abbrev pub invariant-loop-rest : goal.invariant-loop-rest
invariant-loop-rest l = without_front_space (reverse l.rest) ≡ without_front_space
    (reverse l.fn.text)

abbrev pub decreases-loop-rest : goal.decreases-loop-rest
decreases-loop-rest l = length l.rest
