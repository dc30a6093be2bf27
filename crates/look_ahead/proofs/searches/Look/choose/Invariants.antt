use Rattle.std.proofs.Common.{◌≤◌, length}
use Rattle.look_ahead.proofs.searches.Look.choose.Given as goal

abbrev pub invariant-batches : goal.invariant-batches
invariant-batches g l = record {
  root : 1 ≤ length l.self.nodes.items;
  few : length l.self.nodes.items ≤ l.budget;
}
