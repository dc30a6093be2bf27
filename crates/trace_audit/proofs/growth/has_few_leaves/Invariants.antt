use Rattle.std.proofs.Common.{ℕ, ◌<◌}
use Rattle.trace_audit.specs.Points.{IsFrugal}
use Rattle.trace_audit.proofs.growth.has_few_leaves.Given as goal

abbrev pub invariant-nodes : goal.invariant-nodes
invariant-nodes l = (k : ℕ) → k < l.place → IsFrugal l.words l.sums l.site l.most k
