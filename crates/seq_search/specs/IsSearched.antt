-- What a search has reached after so many walks. No clause of a public call cites this.
use Rattle.std.specs.Prelude.{◌≡◌, ℕ, ◌+◌, ◌<◌, ◌≤◌, true, List}
use Rattle.tree_words.specs.Settings.{Setting}
use Rattle.tree_words.specs.Words.{root_at, area_at, end_of, next_in, tally_in}
use Rattle.tree_words.specs.Blocks.{LinkedBlock, has_node, is_node, link_of, In}
use Rattle.tree_words.specs.Paths.{node_board}
use Rattle.tree_words.specs.Records.{IsRecord}
use Rattle.tree_words.specs.Counts.{ExactTo}
use Rattle.tree_words.specs.declared.layout.TheConstants.{MOST_BLOCK_WORDS}
use Rattle.tree_words.specs.Growth.{other_words, ends_at}
use Rattle.tree_words.specs.Opening.{opening_next}
use Rattle.hex_board.specs.Positions.{is_empty_at}

-- After k walks of one worker: the counts are those of the k playouts, and each of these has
-- its record; the root's block begins the area; in a block that has a child without visits no child
-- has more than one; if NEXT is at most the area's end, a node with an empty cell on its
-- board is the leaf of at most T playouts, and NEXT is the end of the root's block and the other
-- blocks' words; and past the end it is at most one largest block more.
pub record IsSearched (s : Setting) (bs : List LinkedBlock) (words : List ℕ) (k : ℕ) : Type 0 where
  pub exact : ExactTo s bs words k
  pub recorded : (j : ℕ) → j < k → IsRecord s bs words j
  pub rooted : link_of bs (root_at s) ≡ area_at s
  pub first : (b : LinkedBlock) (x y : ℕ) → In b bs → has_node b x ≡ true → has_node b y ≡ true
      → (tally_in words y).visits ≡ 0
      → (tally_in words x).visits ≤ 1
  pub leaves : next_in words ≤ end_of s → (x c : ℕ) → is_node (root_at s) bs x ≡ true
      → is_empty_at (node_board s bs x) c ≡ true
      → ends_at words k x ≤ s.knobs.expand
  pub within : next_in words ≤ end_of s → next_in words ≡ opening_next s + other_words s bs
  pub room : next_in words ≤ opening_next s + other_words s bs + MOST_BLOCK_WORDS
