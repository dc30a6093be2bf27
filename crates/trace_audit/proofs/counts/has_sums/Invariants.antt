use Rattle.std.proofs.Common.{ℕ, ◌<◌}
use Rattle.tree_words.specs.Words.{node_at}
use Rattle.trace_audit.specs.Points.{AreSame}
use Rattle.trace_audit.proofs.counts.has_sums.Given as goal

abbrev pub invariant-nodes : goal.invariant-nodes
invariant-nodes l = (k : ℕ) → k < l.place → AreSame l.words l.sums (node_at l.block k)
