-- The closed tree.
use Rattle.std.specs.Prelude.{◌≡◌, ℕ, ◌+◌, ◌*◌, ◌≤◌, List, length}
use Rattle.tree_words.specs.Settings.{Setting}
use Rattle.tree_words.specs.Words.{end_of, next_in, ticket_in}
use Rattle.tree_words.specs.Blocks.{LinkedBlock}
use Rattle.tree_words.specs.Complete.{Linked}
use Rattle.tree_words.specs.Records.{Recorded}
use Rattle.tree_words.specs.Counts.{Exact}
use Rattle.tree_words.specs.Growth.{Grown}
use Rattle.tree_words.specs.declared.layout.TheConstants.{MOST_BLOCK_WORDS}
use Rattle.tree_words.specs.declared.settings.TheConstants.{MOST_WORKERS}

-- NEXT is at most a largest block for each of the most workers past the area's end, and TICKET is
-- at most their number past N
pub record KeepsEnds (s : Setting) (words : List ℕ) : Type 0 where
  pub next : next_in words ≤ end_of s + MOST_WORKERS * MOST_BLOCK_WORDS
  pub ticket : (s.knobs.playouts ≤ ticket_in words)
      × (ticket_in words ≤ s.knobs.playouts + MOST_WORKERS)

-- Closed: the words are N + M + 6 in number, and there are blocks of which the five points hold:
-- they are linked and complete, each playout has its record, the counts are exact, the ends are
-- kept, and the tree is grown. No record's leaf is the root, which the records say already.
pub record IsClosed (s : Setting) (words : List ℕ) : Type 0 where
  pub long : length words ≡ end_of s
  pub blocks : List LinkedBlock
  pub linked : Linked s words blocks
  pub recorded : Recorded s blocks words
  pub exact : Exact s blocks words
  pub ends : KeepsEnds s words
  pub grown : Grown s blocks words

-- what is seen of a closed tree: its shape and its words
pub record ClosedTree : Type 0 where
  pub shape : Setting
  pub words : List ℕ
