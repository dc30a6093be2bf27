use Rattle.std.proofs.Common.{◌≡◌, length}
use Rattle.look_ahead.proofs.searches.Look.leave.Given as goal

abbrev pub invariant-nodes : goal.invariant-nodes
invariant-nodes l = length l.self.nodes.items ≡ length l.fn.self.nodes.items
