-- How far a walk has come, and its leaf. No clause of a public call cites this.
use Rattle.std.specs.Prelude.{◌≡◌, ℕ, ◌+◌, ◌≤◌, true, List, ◌++◌, length, take}
use Rattle.hex_board.specs.Positions.{Position, is_empty_at}
use Rattle.tree_words.specs.Settings.{Setting}
use Rattle.tree_words.specs.Words.{Count, root_at, link_in, tally_in, seen_in}
use Rattle.tree_words.specs.Blocks.{LinkedBlock, is_node}
use Rattle.tree_words.specs.Paths.{NodeState, root_state, node_state}
use Rattle.tree_words.specs.Trees.{oldest_first}
use Rattle.tree_words.specs.Sequence.{search_game}
use Rattle.tree_words.specs.Descents.{leaf_at, state_at, steps_at}
use Rattle.tree_words.specs.Counts.{count_below}
use Rattle.seq_search.specs.declared.descending.Descent.{Descent}
use Rattle.seq_search.specs.declared.descending.TheConstants.{MOST_STEPS}
use Rattle.hex_cells.specs.declared.board_size.TheConstants.{MOST_CELLS}
use Rattle.hex_cells.specs.declared.board_size.TheConstants.Size.{MAX}

-- the board and the player to move
abbrev pub spot_in : Descent → NodeState
spot_in d = record { board = d.board; player = d.player }

-- the nodes below the root, down to where it stands
abbrev pub nodes_down : Descent → List ℕ
nodes_down d = take d.count d.steps

-- how many cells of the board are empty
unfoldable pub left_on : Position → ℕ
left_on p = count_below MOST_CELLS (is_empty_at p)

-- There is room for its further steps: each takes an empty cell.
pub record HasRoom (d : Descent) : Type 0 where
  pub size : d.board.size ≤ MAX
  pub cells : d.count + left_on d.board ≤ MOST_STEPS
  pub long : length d.steps ≡ MOST_STEPS

module _ (s : Setting) (bs : List LinkedBlock) (words : List ℕ) where
  -- the leaf of the walk from x down, its state and its steps, by the words
  abbrev pub leaf_below : ℕ → ℕ
  leaf_below x = leaf_at (search_game s) (tally_in words) (seen_in words) (oldest_first bs) x

  abbrev pub state_below : ℕ → NodeState → Count × NodeState
  state_below x p = state_at (search_game s) (tally_in words) (seen_in words) (oldest_first bs) x p

  abbrev pub steps_below : ℕ → List ℕ
  steps_below x = steps_at (search_game s) (tally_in words) (seen_in words) (oldest_first bs) x

  -- The walk stands at a node on its way: its board and its player are those of the node.
  pub record Underway (d : Descent) : Type 0 where
    pub node : is_node (root_at s) bs d.node ≡ true
    pub spot : spot_in d ≡ node_state s bs d.node
    pub leaf : leaf_below (root_at s) ≡ leaf_below d.node
    pub state : state_below (root_at s) (root_state s) ≡ state_below d.node (spot_in d)
    pub steps : steps_below (root_at s) ≡ nodes_down d ++ steps_below d.node

  -- The walk has come to its leaf.
  pub record Descended (d : Descent) : Type 0 where
    pub node : is_node (root_at s) bs d.node ≡ true
    pub spot : spot_in d ≡ node_state s bs d.node
    pub leaf : leaf_below (root_at s) ≡ d.node
    pub state : state_below (root_at s) (root_state s) ≡ (tally_in words d.node, spot_in d)
    pub steps : steps_below (root_at s) ≡ nodes_down d
    pub bare : link_in words d.node ≡ 0
    pub few : d.count ≤ MOST_STEPS
    pub long : length d.steps ≡ MOST_STEPS
