use Rattle.arena_rule.specs.Runs.{joins}
use Rattle.arena_rule.proofs.RunLaws.{event-keeps}
use Rattle.arena_rule.proofs.laws.joins.Goals as goal

pub returns : goal.returns
returns c s a r id other b h = event-keeps s (joins id other) a b r h
