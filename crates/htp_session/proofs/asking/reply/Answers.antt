-- If memory ran out before the engine was asked, nothing was used up.
use Rattle.std.proofs.lemmas.Result.{err_from_is_err_and}
use Rattle.htp_session.proofs.UsageLaws.{nothing_used}
use Rattle.htp_session.proofs.Speaking.{unanswered}
use Rattle.htp_session.proofs.asking.reply.Goals as goal

pub returns-in_err-reserve-clause-replies : goal.returns-in_err-reserve-clause-replies
returns-in_err-reserve-clause-replies g c =
    let p = err_from_is_err_and c.from_residual.result c.from_residual.ensures.1 in
    rw (p.1, p.2) (nothing_used _ _)

pub returns-in_err-answer-clause-replies : goal.returns-in_err-answer-clause-replies
returns-in_err-answer-clause-replies g c =
    let p = err_from_is_err_and c.from_residual-in_err-answer.result c.from_residual-in_err-answer.ensures.1 in
    rw (p.1, p.2)
    (unanswered c.args.devices.now c.ask.new.devices c.args.engine.now c.ask.new.engine c.args.question.now
    c.args.out.now.items c.reserve.new.self.items c.in_err-answer.field-0.0 c.in_err-answer.ensures.asks)
