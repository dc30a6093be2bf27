use Rattle.std.proofs.Common.{◌≤◌, List}
use Rattle.tree_words.specs.Blocks.{LinkedBlock}
use Rattle.tree_words.specs.Words.{area_at, end_of}
use Rattle.trace_audit.specs.Tables.{IsLinked}
use Rattle.trace_audit.specs.Sums.{AreHanded, AreOwn}
use Rattle.trace_audit.proofs.handing.hand_all.Given as goal

abbrev pub invariant-words : goal.invariant-words
invariant-words l = (l.at ≤ end_of l.shape) × (area_at l.shape ≤ l.at)
    × ((bs : List LinkedBlock) → IsLinked l.shape l.words l.table bs → AreOwn l.shape bs l.words l.initial.sums
    l.shape.knobs.playouts → AreHanded l.shape bs l.words l.sums l.at)

abbrev pub decreases-words : goal.decreases-words
decreases-words l = l.at
