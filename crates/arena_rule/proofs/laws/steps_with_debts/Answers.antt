use Rattle.arena_rule.proofs.Owing.{owing-steps, owing-answers}
use Rattle.arena_rule.proofs.laws.steps_with_debts.Goals as goal

pub returns-clause-rule : goal.returns-clause-rule
returns-clause-rule c s a r id d op seat fits
    = owing-steps s a.words a.seats r id d seat.at seat.live op fits

pub returns-clause-answer : goal.returns-clause-answer
returns-clause-answer c s a r id d op seat fits
    = owing-answers s a.words a.seats r id d seat.at seat.live op fits
