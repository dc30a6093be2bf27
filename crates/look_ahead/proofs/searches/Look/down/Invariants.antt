use Rattle.std.proofs.Common.{◌≡◌, length}
use Rattle.look_ahead.proofs.searches.Look.down.Given as goal

abbrev pub invariant-stones : goal.invariant-stones
invariant-stones l = length l.self.nodes.items ≡ length l.fn.self.nodes.items
