use Rattle.arena_rule.proofs.RunLaws.{run-keeps}
use Rattle.arena_rule.proofs.laws.runs.Goals as goal

pub returns : goal.returns
returns c s a r events b l = run-keeps s events a b r l
