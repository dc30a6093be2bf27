use Rattle.std.proofs.Common.{ℕ, ◌<◌, List, drop}
use Rattle.tree_words.specs.Blocks.{LinkedBlock}
use Rattle.seq_search.specs.Steps.{Holds}
use Rattle.seq_search.specs.Descending.{Descended, nodes_down}
use Rattle.seq_search.proofs.Additions.{Adding}
use Rattle.seq_search.proofs.adding.count.Given as goal

abbrev pub invariant-down : goal.invariant-down
invariant-down l = (bs : List LinkedBlock) (k : ℕ) → k < l.shape.knobs.playouts
    → Holds l.shape bs l.initial.words k → Descended l.shape bs l.initial.words l.walk
    → Adding l.shape bs l.ending l.initial.words l.words l.node l.player
    (drop l.i (nodes_down l.walk))
