use Rattle.std.proofs.Common.{List, ap}
use Rattle.hex_game.specs.declared.moves.Step.{Step}
use Rattle.hex_game.proofs.Chains.{before_last-push}
use Rattle.hex_game.proofs.undo_takes_back.Goals as goal

pub returns : goal.returns
returns c = λ game step. ap (λ (s : List Step). record { start = game.start; steps = s })
    (before_last-push game.steps step)
