use Rattle.std.proofs.Common.{◌≡◌, length}
use Rattle.look_ahead.proofs.searches.Look.attach.Given as goal

abbrev pub invariant-tops : goal.invariant-tops
invariant-tops l = length l.self.nodes.items ≡ length l.fn.self.nodes.items
