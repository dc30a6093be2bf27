use Rattle.play_out.proofs.Filling.{black_joins}
use Rattle.play_out.proofs.playouts.playout.Goals as goal

pub returns-clause-joined : goal.returns-clause-joined
returns-clause-joined c
    = black_joins c.args.board.now c.args.to_move c.args.seed c.args.k c.play.result.winner c.play.ensures.winner
