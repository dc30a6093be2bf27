use Rattle.arena_rule.proofs.Law as law
use Rattle.arena_rule.proofs.laws.begins.Goals as goal

pub returns-clause-one : goal.returns-clause-one
returns-clause-one c s h = law.begins s h

pub returns-clause-many : goal.returns-clause-many
returns-clause-many c s h = law.begins-apart s h
