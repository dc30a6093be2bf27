use Rattle.std.proofs.Common.{◌≤◌, ◌+◌, length}
use Rattle.look_ahead.proofs.searches.Look.batch.Given as goal

abbrev pub invariant-results : goal.invariant-results
invariant-results g l = record {
  keeps : length l.fn.self.nodes.items ≤ length l.self.nodes.items;
  few : length l.self.nodes.items ≤ length l.fn.self.nodes.items + l.number;
}
