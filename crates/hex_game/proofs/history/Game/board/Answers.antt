use Rattle.hex_game.proofs.Chains.{leads_to_replay}
use Rattle.hex_game.proofs.Rules.{same_board}
use Rattle.hex_game.proofs.history.Game.board.Goals as goal

pub returns : goal.returns
returns c = same_board _ _ _ c.args.self.now c.self.view_is
    (leads_to_replay _ _ _ _ c.self.invariant.0)
