-- What stands while the words are copied.
use Rattle.std.specs.Mem.Slots.{slots_items}
use Rattle.tree_words.specs.Words.{next_in}
use Rattle.tree_rule.proofs.Copies.{Copied}
use Rattle.tree_rule.proofs.trees.copy_claimed.Given as goal

abbrev pub invariant-loop-i : goal.invariant-loop-i
invariant-loop-i l
    = Copied (slots_items l.table.words) (next_in (slots_items l.table.words)) l.i l.room
