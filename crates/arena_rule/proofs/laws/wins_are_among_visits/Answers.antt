use Rattle.arena_rule.proofs.Law as law
use Rattle.arena_rule.proofs.laws.wins_are_among_visits.Goals as goal

pub returns : goal.returns
returns c s a r x n = law.wins s a.words a.views r x n
