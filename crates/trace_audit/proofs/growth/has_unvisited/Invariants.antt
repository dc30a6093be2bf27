use Rattle.std.proofs.Common.{ℕ, ◌<◌}
use Rattle.trace_audit.specs.Points.{place_visits}
use Rattle.trace_audit.proofs.growth.has_unvisited.Given as goal

abbrev pub invariant-nodes : goal.invariant-nodes
invariant-nodes l = (k : ℕ) → k < l.place → 0 < place_visits l.words l.block k
