use Rattle.arena_rule.proofs.Law as law
use Rattle.arena_rule.proofs.laws.steps.Goals as goal

pub returns-clause-rule : goal.returns-clause-rule
returns-clause-rule c s a r id v op seat fits
    = law.steps s a.words a.views r id v seat.at seat.live op fits

pub returns-clause-answer : goal.returns-clause-answer
returns-clause-answer c s a r id v op seat fits
    = law.answers s a.words a.views r id v seat.at seat.live op fits
