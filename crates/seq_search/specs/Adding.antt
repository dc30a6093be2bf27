-- What a walk adds, word by word. No clause of a public call cites this.
use Rattle.std.specs.Prelude.{◌≡◌, ◌≢◌, ℕ, ◌+◌, ◌<◌, if◌then◌else◌, true, List, length}
use Rattle.std.specs.Prelude.{slice_index}
use Rattle.hex_cells.specs.Sets.{has as has_cell}
use Rattle.tree_words.specs.Settings.{Setting}
use Rattle.tree_words.specs.Words.{root_at, cell_in, tally_in, seen_in, node_at}
use Rattle.tree_words.specs.Blocks.{LinkedBlock, is_node}
use Rattle.tree_words.specs.Paths.{root_state}
use Rattle.tree_words.specs.Walks.{plus}
use Rattle.tree_words.specs.Trees.{oldest_first}
use Rattle.play_out.specs.declared.playouts.Ending.{Ending}
use Rattle.tree_words.specs.Sequence.{search_game}
use Rattle.tree_words.specs.Descents.{adds, sees, Added, config_of}
use Rattle.tree_words.specs.declared.layout.TheConstants.{TALLY_WORD, SEEN_WORD}
use Rattle.seq_search.specs.Steps.{Holds}
use Rattle.seq_search.specs.Descending.{Descended}
use Rattle.seq_search.specs.declared.descending.Descent.{Descent}

-- Of the first n nodes of the block at b, the seen word of each whose cell is in the set has so
-- much more, and all else is as before.
pub record Sighted (b n set amount : ℕ) (before after : List ℕ) : Type 0 where
  pub long : length after ≡ length before
  pub seen : (k : ℕ) → k < n → slice_index after (node_at b k + SEEN_WORD)
      ≡ slice_index before (node_at b k + SEEN_WORD)
      + (if has_cell set (cell_in (slice_index before (node_at b k))) then amount else 0)
  pub others : (i : ℕ) → ((k : ℕ) → k < n → i ≢ node_at b k + SEEN_WORD)
      → slice_index after i ≡ slice_index before i

-- Each node has the counts that the walk adds if its playout gave o, and all other words are as
-- before.
pub record Counted (s : Setting) (bs : List LinkedBlock) (o : Ending)
    (before after : List ℕ) : Type 0 where
  pub long : length after ≡ length before
  pub tally : (w : ℕ) → is_node (root_at s) bs w ≡ true → tally_in after w
      ≡ plus (tally_in before w) (adds (search_game s) (tally_in before) (seen_in before) o
      (oldest_first bs) (root_at s) (root_state s) w)
  pub seen : (w : ℕ) → is_node (root_at s) bs w ≡ true → seen_in after w
      ≡ plus (seen_in before w) (sees (search_game s) (tally_in before) (seen_in before) o
      (oldest_first bs) (root_at s) (root_state s) w)
  pub others : (i : ℕ)
      → ((w : ℕ) → is_node (root_at s) bs w ≡ true → (i ≢ w + TALLY_WORD) × (i ≢ w + SEEN_WORD))
      → slice_index after i ≡ slice_index before i

-- the words after a walk have what it adds if its playout gave o
abbrev pub AddsWalk : Setting → List LinkedBlock → Ending → List ℕ → List ℕ → Type 0
AddsWalk s bs o before after =
    Added (search_game s) (root_state s) (root_at s) o (config_of bs before) (config_of bs after)

-- The words hold a tree after some walks, but not all, and the next walk has come to its leaf.
abbrev pub HasWalked : Setting → List ℕ → Descent → Type 0
HasWalked s words d = (bs : List LinkedBlock) × (k : ℕ) × (k < s.knobs.playouts)
    × Holds s bs words k × Descended s bs words d

-- If the words hold the tree of some blocks after k walks, and walk k has come to its leaf, this
-- holds of the blocks.
abbrev pub IfWalked : Setting → List ℕ → ℕ → Descent → (List LinkedBlock → Type 0) → Type 0
IfWalked s words k d p =
    (bs : List LinkedBlock) → Holds s bs words k → Descended s bs words d → p bs

-- The walk's counts are added, if its playout gave o.
abbrev pub CountsWalk : Setting → Descent → Ending → List ℕ → List ℕ → Type 0
CountsWalk s d o before after = (bs : List LinkedBlock) (k : ℕ) → k < s.knobs.playouts
    → Holds s bs before k → Descended s bs before d → Counted s bs o before after
