use Rattle.std.proofs.Common.{ap, ◌∙◌}
use Rattle.play_out.proofs.Filling.{result_is}
use Rattle.play_out.proofs.playouts.play.Goals as goal

pub returns-clause-winner : goal.returns-clause-winner
returns-clause-winner c = c.winner.ensures
    ∙ result_is c.args.board.now c.args.to_move c.args.seed c.args.k c.size.result c.stones.result
    (c.size.ensures.value ∙ c.fill-full.ensures.size)
    (c.stones.ensures.value ∙ ap (λ p. p.black) c.fill-full.ensures.value)
