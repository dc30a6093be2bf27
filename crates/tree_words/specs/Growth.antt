-- How a tree has grown.
use Rattle.std.specs.Prelude.{◌≡◌, ℕ, ◌+◌, ◌*◌, ◌≤◌, ◌==◌, not, true, List, sum_by}
use Rattle.std.specs.List.{filter}
use Rattle.hex_board.specs.Positions.{is_empty_at}
use Rattle.tree_words.specs.Settings.{Setting}
use Rattle.tree_words.specs.Words.{root_at, end_of, next_in, tally_in}
use Rattle.tree_words.specs.Blocks.{LinkedBlock, block_size, size, has_node, is_node, In}
use Rattle.tree_words.specs.Paths.{node_board}
use Rattle.tree_words.specs.Records.{leaf_of}
use Rattle.tree_words.specs.Counts.{count_below}
use Rattle.tree_words.specs.Roots.{root_link, root_count}
use Rattle.tree_words.specs.declared.layout.TheConstants.{MOST_BLOCK_WORDS}

-- the end of the root's block: of the block that the root's link names, wherever it lies
abbrev pub root_end : Setting → List ℕ → ℕ
root_end s words = root_link s words + block_size (root_count s words)

-- the sizes of the linked blocks but the root's
abbrev pub other_words : Setting → List LinkedBlock → ℕ
other_words s bs = sum_by size (filter (λ b. not (b.parent == root_at s)) bs)

-- how many of the first n playouts have x as their leaf
abbrev pub ends_at : List ℕ → ℕ → ℕ → ℕ
ends_at words n x = count_below n (λ k. leaf_of words k == x)

-- Grown: in a block that has a child without visits no child has more than K; if NEXT
-- is at most the area's end, a node with an empty cell on its board is the leaf of at most K·T
-- records; and NEXT is at most the end of the root's block, K times the other blocks' words, and
-- one largest block for each worker
pub record Grown (s : Setting) (bs : List LinkedBlock) (words : List ℕ) : Type 0 where
  pub first : (b : LinkedBlock) (x y : ℕ) → In b bs → has_node b x ≡ true → has_node b y ≡ true
      → (tally_in words y).visits ≡ 0
      → (tally_in words x).visits ≤ s.knobs.workers
  pub leaves : next_in words ≤ end_of s → (x c : ℕ) → is_node (root_at s) bs x ≡ true
      → is_empty_at (node_board s bs x) c ≡ true
      → ends_at words s.knobs.playouts x ≤ s.knobs.workers * s.knobs.expand
  pub room : next_in words ≤ root_end s words + s.knobs.workers * other_words s bs
      + MOST_BLOCK_WORDS * s.knobs.workers
