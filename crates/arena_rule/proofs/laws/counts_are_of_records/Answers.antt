use Rattle.arena_rule.proofs.Law as law
use Rattle.arena_rule.proofs.laws.counts_are_of_records.Goals as goal

pub returns : goal.returns
returns c s a r = law.counts s a.words a.views r
