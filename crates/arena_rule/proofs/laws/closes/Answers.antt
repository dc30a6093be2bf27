use Rattle.arena_rule.proofs.Law as law
use Rattle.arena_rule.proofs.laws.closes.Goals as goal

pub returns-clause-closed : goal.returns-clause-closed
returns-clause-closed c s a r id v last = law.closes s a.words a.views r id v last

pub returns-clause-walks : goal.returns-clause-walks
returns-clause-walks c s a r id v last = law.closes-walks s a.words a.views r id v last
