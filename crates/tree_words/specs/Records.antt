-- The records of the playouts.
use Rattle.std.specs.Prelude.{◌≡◌, ◌≢◌, ℕ, ◌<◌, true, List}
use Rattle.tree_words.specs.Settings.{Setting}
use Rattle.tree_words.specs.Words.{root_at, record_in, leaf_in, winner_in}
use Rattle.tree_words.specs.Blocks.{LinkedBlock, is_node}
use Rattle.tree_words.specs.Paths.{node_state}
use Rattle.play_out.specs.declared.playouts.Ending.{Ending}
use Rattle.tree_words.specs.Sequence.{outcome_of}

-- the leaf of playout k
abbrev pub leaf_of : List ℕ → ℕ → ℕ
leaf_of words k = leaf_in (record_in words k)

-- what playout k gives from the leaf's board, with the player to move there
abbrev pub outcome_in : Setting → List LinkedBlock → List ℕ → ℕ → Ending
outcome_in s bs words k = outcome_of s k (node_state s bs (leaf_of words k))

-- the record of playout k is right: its leaf is a node of the tree other than the root, and its
-- result is that of the playout
pub record IsRecord (s : Setting) (bs : List LinkedBlock) (words : List ℕ) (k : ℕ) : Type 0 where
  pub node : is_node (root_at s) bs (leaf_of words k) ≡ true
  pub below : leaf_of words k ≢ root_at s
  pub result : winner_in (record_in words k) ≡ (outcome_in s bs words k).winner

-- Recorded: each playout has its record
abbrev pub Recorded : Setting → List LinkedBlock → List ℕ → Type 0
Recorded s bs words = (k : ℕ) → k < s.knobs.playouts → IsRecord s bs words k
