use Rattle.std.proofs.Common.{ℕ, ◌<◌, List}
use Rattle.tree_words.specs.Blocks.{LinkedBlock}
use Rattle.tree_words.specs.Records.{IsRecord}
use Rattle.trace_audit.specs.Tables.{IsLinked}
use Rattle.trace_audit.specs.Sums.{AreOwn}
use Rattle.trace_audit.proofs.recording.sum.Given as goal

abbrev pub invariant-records : goal.invariant-records
invariant-records l = (bs : List LinkedBlock) → IsLinked l.shape l.words l.table bs
    → ((j : ℕ) → j < l.k → IsRecord l.shape bs l.words j)
    × AreOwn l.shape bs l.words l.sums.items l.k
