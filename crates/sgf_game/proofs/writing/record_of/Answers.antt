use Rattle.std.proofs.Common.{◌≡◌, ◌<◌, length, get_or, sym, subst, arith}
use Rattle.sgf_game.specs.Playing.{IsMoveOn}
use Rattle.sgf_game.proofs.StepsBack.{legal_on_board, step_on}
use Rattle.sgf_game.proofs.writing.record_of.Goals as goal

pub node_of-requires : goal.node_of-requires
node_of-requires c =
    let game = c.args.game.now in
    let size : c.size-size.result ≡ game.start.size = grind arith in
    let within : c.loop-step.step-index < length game.steps = grind arith in
    let here : c.step-item.result ≡ get_or game.steps c.loop-step.step-index c.step-item.result
    = grind arith in
    subst (λ n. IsMoveOn n c.step-item.result.what) (sym size)
    (step_on game.start.size game.steps c.loop-step.step-index c.step-item.result (legal_on_board game.start game.steps c.steps_are_legal.ensures.legal)
    within here)
