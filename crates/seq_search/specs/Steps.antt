-- What a search over plain words keeps between its steps. No clause of a public call cites this.
use Rattle.std.specs.Prelude.{◌≡◌, ℕ, ◌+◌, ◌<◌, ◌≤◌, true, List, length, slice_index}
use Rattle.tree_words.specs.Settings.{Setting}
use Rattle.tree_words.specs.Words.{root_at, end_of, next_in, record_in, tally_in, seen_in}
use Rattle.tree_words.specs.Blocks.{LinkedBlock, is_node}
use Rattle.tree_words.specs.Complete.{Linked, HaveNodes}
use Rattle.tree_words.specs.declared.layout.TheConstants.{MOST_BLOCK_WORDS, TICKET_AT, RECORDS_AT}
use Rattle.tree_words.specs.declared.layout.TheConstants.{SEEN_WORD}
use Rattle.tree_words.specs.Opening.{opening_next}
use Rattle.tree_words.specs.Walks.{AtMost}

-- After k walks the words are a tree of the setting with these linked blocks, newest first: all
-- words are there, the blocks are linked and complete, the root has no move and is never seen,
-- words from NEXT on are 0, and no count passes k.
pub record Holds (s : Setting) (bs : List LinkedBlock) (words : List ℕ) (k : ℕ) : Type 0 where
  pub long : length words ≡ end_of s
  pub linked : Linked s words bs
  pub filled : HaveNodes bs
  pub root : (slice_index words (root_at s) ≡ 0) × (slice_index words (root_at s + SEEN_WORD) ≡ 0)
  pub next : (opening_next s ≤ next_in words) × (next_in words ≤ end_of s + MOST_BLOCK_WORDS)
  pub fresh : (i : ℕ) → next_in words ≤ i → slice_index words i ≡ 0
  pub counts : (x : ℕ) → is_node (root_at s) bs x ≡ true
      → AtMost k (tally_in words x) × AtMost k (seen_in words x)

-- TICKET and the records are as they were
abbrev pub KeepsRecords : Setting → List ℕ → List ℕ → Type 0
KeepsRecords s before after =
    (i : ℕ) → TICKET_AT ≤ i → i < root_at s → slice_index after i ≡ slice_index before i

-- playout k has its record, and TICKET and the other records are as they were
pub record Records (s : Setting) (k n : ℕ) (before after : List ℕ) : Type 0 where
  pub is : record_in after k ≡ n
  pub others : (i : ℕ) → TICKET_AT ≤ i → i < root_at s → (i ≡ RECORDS_AT + k → ⊥)
      → slice_index after i ≡ slice_index before i
