-- What was given is what was held.
use Rattle.std.proofs.lemmas.Result.{err_from_is_err_and}
use Rattle.htp_session.proofs.holding.give_held.Goals as goal

pub returns-in_err-give-clause-gives : goal.returns-in_err-give-clause-gives
returns-in_err-give-clause-gives g c =
    let p = err_from_is_err_and c.from_residual.result c.from_residual.ensures.1 in
    rw p.1 (rw (← c.deref.ensures.value) c.in_err-give.ensures.gives)

pub returns-clause-gives : goal.returns-clause-gives
returns-clause-gives g c = rw (← c.deref.ensures.value) c.in_ok-give.ensures.gives
