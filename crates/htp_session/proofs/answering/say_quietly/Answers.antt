-- What the engine answers without using anything up, or that it may use something up.
use Rattle.htp_session.proofs.Speaking.{unspoken}
use Rattle.htp_session.proofs.answering.say_quietly.Goals as goal

pub returns-in-Using-clause-speaks : goal.returns-in-Using-clause-speaks
returns-in-Using-clause-speaks c =
    unspoken _ _ c.args.request c.in-Using.command _ (rw c.in-Using.is at c.in_ok-answer.ensures.ok)
