use Rattle.arena_rule.specs.Runs.{splits}
use Rattle.arena_rule.proofs.RunLaws.{event-keeps}
use Rattle.arena_rule.proofs.laws.splits.Goals as goal

pub returns : goal.returns
returns c s a r id part b h = event-keeps s (splits id part) a b r h
