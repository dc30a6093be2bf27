use Rattle.std.proofs.Common.{◌≡◌, ℕ, ◌+◌, ◌-◌, ◌*◌, ◌≤◌, List}
use Rattle.tree_words.specs.Blocks.{LinkedBlock}
use Rattle.tree_words.specs.Settings.{Setting}
use Rattle.trace_audit.specs.Tables.{IsEntered}
use Rattle.trace_audit.proofs.entries.enter_all.Given as goal

abbrev pub invariant-nodes : goal.invariant-nodes
invariant-nodes l =
    (l.x ≤ l.end) × ((k : ℕ) × (l.x ≡ l.at + 4 + 4 * k))
    × ((s : Setting) (b : LinkedBlock) (bs : List LinkedBlock) → IsEntered s l.words l.initial.table (l.at + 4) l.at
    l.end b bs → IsEntered s l.words l.table l.x l.at l.end b bs)

abbrev pub decreases-nodes : goal.decreases-nodes
decreases-nodes l = l.end - l.x
