use Rattle.std.proofs.Common.{◌≡◌, length}
use Rattle.look_ahead.proofs.searches.Look.go_down.Given as goal

abbrev pub invariant-walks : goal.invariant-walks
invariant-walks l = length l.self.nodes.items ≡ length l.fn.self.nodes.items
