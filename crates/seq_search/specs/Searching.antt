-- What a search keeps from walk to walk. No clause of a public call cites this.
use Rattle.std.specs.Prelude.{◌≡◌, ℕ, ◌<◌, ◌≤◌, List}
use Rattle.tree_words.specs.Settings.{Setting}
use Rattle.tree_words.specs.Words.{root_at, next_in, ticket_in}
use Rattle.tree_words.specs.Blocks.{LinkedBlock, link_of}
use Rattle.tree_words.specs.Paths.{root_state}
use Rattle.tree_words.specs.Walks.{walks}
use Rattle.tree_words.specs.Sequence.{search_game, first_tree}
use Rattle.tree_words.specs.Descents.{tree_in, Widened, config_of}
use Rattle.seq_search.specs.Steps.{Holds, KeepsRecords}
use Rattle.seq_search.specs.IsSearched.{IsSearched}
use Rattle.seq_search.specs.Descending.{Descended}
use Rattle.seq_search.specs.declared.descending.Descent.{Descent}

-- The words are those of a search after k walks: they hold its tree, which is that of k walks of
-- the sequential search, their counts and records are those of these walks, and all playout numbers
-- are drawn.
pub record Searched (s : Setting) (words : List ℕ) (k : ℕ) : Type 0 where
  pub blocks : List LinkedBlock
  pub holds : Holds s blocks words k
  pub standing : IsSearched s blocks words k
  pub tree : (tree_in (root_at s) (config_of blocks words), next_in words)
      ≡ walks (search_game s) (root_state s) (first_tree s) k
  pub ticket : ticket_in words ≡ s.knobs.playouts

-- The walk has come to its leaf, which has got its block before if it was to have one: the words
-- hold the widened tree, with the same records.
pub record Reached (s : Setting) (bs : List LinkedBlock) (k : ℕ) (before after : List ℕ)
    (d : Descent) : Type 0 where
  pub blocks : List LinkedBlock
  pub holds : Holds s blocks after k
  pub widened : Widened (search_game s) (root_state s) (root_at s) (config_of bs before)
      (config_of blocks after)
  pub keeps : KeepsRecords s before after
  pub descended : Descended s blocks after d

-- The words hold a tree after some walks, whose root has its block.
abbrev pub HoldsRooted : Setting → List ℕ → Type 0
HoldsRooted s words = (bs : List LinkedBlock) × (k : ℕ) × (k ≤ s.knobs.playouts)
    × Holds s bs words k × (0 < link_of bs (root_at s))

-- The walk has come to its leaf, whichever such tree the words held before.
abbrev pub ReachesLeaf : Setting → List ℕ → List ℕ → Descent → Type 0
ReachesLeaf s before after d = (bs : List LinkedBlock) (k : ℕ) → k ≤ s.knobs.playouts
    → Holds s bs before k → 0 < link_of bs (root_at s) → Reached s bs k before after d
