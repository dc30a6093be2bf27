-- The adds of a walk: the words that it counts in, from its leaf up.
use Rattle.std.specs.Prelude.{◌≡◌, true, ℕ, ◌+◌, ◌==◌, if◌then◌else◌, Bool, List, [], ◌∷◌, ◌++◌}
use Rattle.hex_cells.specs.Sets.{has as has_cell}
use Rattle.hex_board.specs.Positions.{stones_of}
use Rattle.hex_board.specs.Wins.{is_same}
use Rattle.tree_words.specs.Settings.{Setting}
use Rattle.tree_words.specs.Words.{root_at}
use Rattle.tree_words.specs.Blocks.{LinkedBlock, In, up, has_node, place, cell_at, is_node}
use Rattle.tree_words.specs.Paths.{NodeState, root_state, state_after, node_state, mover_at}
use Rattle.tree_words.specs.Paths.{mover_of, is_on, enters}
use Rattle.play_out.specs.declared.playouts.Ending.{Ending}
use Rattle.tree_words.specs.Sequence.{outcome_of, amount_of}
use Rattle.tree_words.specs.declared.layout.TheConstants.{NODE_WORDS, HEADER_WORDS, TALLY_WORD}
use Rattle.tree_words.specs.declared.layout.TheConstants.{SEEN_WORD}

-- an add: the word, and whether the mover of that word's node won
pub record CountAdd : Type 0 where
  pub word : ℕ
  pub won : Bool

-- the adds of the seen words of a block's nodes whose cells are in the set, by rising place, if
-- the first node begins at y
abbrev pub seen_adds : ℕ → Bool → ℕ → List ℕ → List CountAdd
seen_adds set won y [] = []
seen_adds set won y (c ∷ cells) =
    let others : List CountAdd = seen_adds set won (y + NODE_WORDS) cells in
    if has_cell set c then record { word = y + SEEN_WORD; won = won } ∷ others else others

-- what has been gathered on the way up to a node: the node's state, and the adds of its path
pub record Gathered : Type 0 where
  pub state : NodeState
  pub adds : List CountAdd

-- the root's adds: its tally
abbrev pub root_adds : Setting → Ending → Gathered
root_adds s o = let p : NodeState = root_state s in
    let won : Bool = is_same o.winner (mover_at p) in
    record { state = p; adds = record { word = root_at s + TALLY_WORD; won = won } ∷ [] }

-- the adds of a node y of a block, before those of its parent: its tally, and then the seen words
-- of the block's nodes whose cell holds a stone of their mover, who is the player to move at the
-- parent
abbrev pub node_adds : Ending → LinkedBlock → ℕ → Gathered → Gathered
node_adds o b y above =
    let won : Bool = is_same o.winner above.state.player in
    let stones : ℕ = stones_of o.full above.state.player in
    let seen : List CountAdd = seen_adds stones won (b.start + HEADER_WORDS) b.cells in
    record {
      state = state_after above.state (cell_at b (place b y));
      adds = record { word = y + TALLY_WORD; won = won } ∷ (seen ++ above.adds);
    }

abbrev pub adds_up : Setting → Ending → List LinkedBlock → ℕ → Gathered
adds_up s o bs x = up (root_adds s o) (node_adds o) bs x

-- the adds of the walk of playout k to a leaf
unfoldable pub walk_adds : Setting → List LinkedBlock → ℕ → ℕ → List CountAdd
walk_adds s bs k leaf = (adds_up s (outcome_of s k (node_state s bs leaf)) bs leaf).adds

-- what a list of adds adds to a word, as a tally and a seen word count visits and wins
abbrev pub amount_at : ℕ → List CountAdd → ℕ
amount_at w [] = 0
amount_at w (a ∷ others) = (if a.word == w then amount_of a.won else 0) + amount_at w others

-- by the exact counts the walk of playout k to a leaf adds to the tally of a node x a visit if
-- the leaf has x on its path, and a win if Mover(x) won
abbrev pub tally_amount : Setting → List LinkedBlock → ℕ → ℕ → ℕ → ℕ
tally_amount s bs k leaf x = let o : Ending = outcome_of s k (node_state s bs leaf) in
    if is_on s bs x leaf then amount_of (is_same o.winner (mover_of s bs x)) else 0

-- and to the seen word of a node y of the block b, if the leaf has a node of b on its path and
-- the filled board a stone of Mover(y) on the cell of y, a visit, and a win if Mover(y) won
abbrev pub seen_amount : Setting → List LinkedBlock → ℕ → ℕ → LinkedBlock → ℕ → ℕ
seen_amount s bs k leaf b y = let o : Ending = outcome_of s k (node_state s bs leaf) in
    if enters s bs b leaf
    then (if has_cell (stones_of o.full (mover_of s bs y)) (cell_at b (place b y))
    then amount_of (is_same o.winner (mover_of s bs y)) else 0)
    else 0

-- the adds of a walk are those of the exact counts
pub record AddExactly (s : Setting) (bs : List LinkedBlock) (k leaf : ℕ) : Type 0 where
  pub tallies : (x : ℕ) → is_node (root_at s) bs x ≡ true
      → amount_at (x + TALLY_WORD) (walk_adds s bs k leaf) ≡ tally_amount s bs k leaf x
  pub seen : (b : LinkedBlock) (y : ℕ) → In b bs → has_node b y ≡ true
      → amount_at (y + SEEN_WORD) (walk_adds s bs k leaf) ≡ seen_amount s bs k leaf b y
