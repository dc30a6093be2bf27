use Rattle.std.proofs.Common.{◌-◌, ◌≤◌, List, length}
use Rattle.tree_words.specs.Blocks.{LinkedBlock}
use Rattle.tree_words.specs.Words.{end_of}
use Rattle.trace_audit.specs.Tables.{Scanned}
use Rattle.trace_audit.proofs.linking.link.Given as goal

abbrev pub invariant-words : goal.invariant-words
invariant-words l = (l.at ≤ end_of l.shape)
    × ((bs : List LinkedBlock) × Scanned l.shape l.words l.table l.at l.at bs)

abbrev pub decreases-words : goal.decreases-words
decreases-words l = length l.words - l.at
