use Rattle.hex_game.proofs.Chains.{replay-push}
use Rattle.hex_game.proofs.replay_goes_on.Goals as goal

pub returns : goal.returns
returns c = λ game step. replay-push game.start game.steps step
