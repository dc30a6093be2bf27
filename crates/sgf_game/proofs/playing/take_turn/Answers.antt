use Rattle.std.proofs.Common.{◌≡◌, Some, arith}
use Rattle.sgf_game.specs.declared.turns.MoveMeaning.TheVariants.{Plays}
use Rattle.sgf_game.proofs.Refusals.{said_on_board}
use Rattle.sgf_game.proofs.playing.take_turn.Goals as goal

pub play-requires : goal.play-requires
play-requires c =
    let said : c.args.turn.now.said ≡ Some (Plays c.in-Some-Plays.what) = grind arith in
    record { on_board = said_on_board c.args.game.now.start c.args.game.now.steps c.args.turn.now.said c.in-Some-Plays.what c.requires said }
