use Rattle.std.proofs.Common.{◌≡◌, ℕ, ◌-◌, ◌≤◌, List, length}
use Rattle.tree_words.specs.Words.{link_in}
use Rattle.tree_words.specs.Blocks.{LinkedBlock}
use Rattle.seq_search.specs.Steps.{Holds}
use Rattle.seq_search.specs.Descending.{Underway, HasRoom}
use Rattle.seq_search.proofs.descending.descend.Given as goal

abbrev pub invariant-down : goal.invariant-down
invariant-down l =
    (l.block ≡ link_in l.words l.walk.node) × HasRoom l.walk
    × ((bs : List LinkedBlock) (k : ℕ) → k ≤ l.shape.knobs.playouts → Holds l.shape bs l.words k → Underway l.shape bs l.words l.walk)

abbrev pub decreases-down : goal.decreases-down
decreases-down l = length l.words - l.walk.node
