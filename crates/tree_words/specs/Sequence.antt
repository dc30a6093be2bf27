-- Seq: the search of one worker, as a fold over its playouts.
use Rattle.std.specs.Prelude.{ℕ, zero, suc, ◌+◌, nat_le, nat_lt, ◌&&◌, if◌then◌else◌, Bool, List}
use Rattle.std.specs.Prelude.{[], ◌∷◌, length, map}
use Rattle.hex_cells.specs.Sets.{has}
use Rattle.hex_board.specs.Positions.{stones_of}
use Rattle.hex_cells.specs.Colours.{is_same}
use Rattle.uct_table.specs.Choice.{Child, choice_of}
use Rattle.play_out.specs.Fills.{empties_of, filled, playout_of}
use Rattle.tree_words.specs.Settings.{Setting}
use Rattle.tree_words.specs.Words.{Count, area_at, end_of, tally_in, seen_in}
use Rattle.tree_words.specs.Blocks.{block_size, one_if}
use Rattle.tree_words.specs.Paths.{NodeState, root_state, state_after, mover_at}
use Rattle.tree_words.specs.Complete.{allowed_cells}
use Rattle.tree_words.specs.Walks.{nothing, Tree, node, Game, fresh, walks}
use Rattle.tree_words.specs.declared.layout.TheConstants.{NODE_WORDS, VISIT}
use Rattle.play_out.specs.declared.playouts.Ending.{Ending}

-- playout k from a spot
unfoldable pub outcome_of : Setting → ℕ → NodeState → Ending
outcome_of s k p = record {
  winner = playout_of p.board p.player s.knobs.seed k;
  full = filled p.board p.player s.knobs.seed k;
}

-- the counts of a child, as Choice reads them
abbrev pub child_of : Count × Count → Child
child_of c = record {
  visits = c.0.visits;
  wins = c.0.wins;
  seen = c.1.visits;
  seen_wins = c.1.wins;
}

-- the counts of the n nodes that stand from word y on
abbrev pub children_in : List ℕ → ℕ → ℕ → List Child
children_in words y zero = []
children_in words y (suc n) =
    child_of (tally_in words y, seen_in words y) ∷ children_in words (y + NODE_WORDS) n

-- one visit, and one win if `wins`
abbrev pub one : Bool → Count
one wins = record { visits = 1; wins = (if wins then 1 else 0) }

-- one visit, and one win if `wins`, as a tally or a seen word counts them
abbrev pub amount_of : Bool → ℕ
amount_of wins = VISIT + one_if wins

-- a node of the path has one visit more, and one win more if its mover won
unfoldable pub gain_of : Ending → NodeState → Count
gain_of o p = one (is_same o.winner (mover_at p))

-- a node of its block, whose parent has this spot, has one seen visit more if its cell holds a
-- stone of its mover on the filled board, and one seen win more if that mover won
unfoldable pub glimpse_of : Ending → NodeState → ℕ → Count
glimpse_of o p cell =
    if has (stones_of o.full p.player) cell then one (is_same o.winner p.player) else nothing

-- the number of words of a block below this spot
abbrev pub size_below : NodeState → ℕ
size_below p = block_size (length (empties_of p.board))

-- a leaf asks for a block if it has T visits, its board has an empty cell, and `next` is at most
-- the area's end
abbrev pub asks : Setting → ℕ → Count → NodeState → Bool
asks s next v p =
    nat_le s.knobs.expand v.visits
    && (nat_lt 0 (length (empties_of p.board)) && nat_le next (end_of s))

-- it gets the block if this fits inside the area
unfoldable pub gets_block : Setting → ℕ → Count → NodeState → Bool
gets_block s next v p = asks s next v p && nat_le (next + size_below p) (end_of s)

-- `next` grows wherever a block is asked for
unfoldable pub next_after : Setting → ℕ → Count → NodeState → ℕ
next_after s next v p = if asks s next v p then next + size_below p else next

-- Choice, with the weight
unfoldable pub chosen_of : Setting → Count → List (Count × Count) → ℕ
chosen_of s v children = choice_of v.visits s.knobs.weight (map child_of children)

-- the search of Hex
abbrev pub search_game : Setting → Game NodeState Ending
search_game s = record {
  choose = chosen_of s;
  next = state_after;
  play = outcome_of s;
  gain = gain_of;
  glimpse = glimpse_of;
  wide = gets_block s;
  grown = next_after s;
  cells = λ p. empties_of p.board;
}

-- the first tree: the root without counts, with one child for each allowed cell; and `next`, the
-- end of the root's block
abbrev pub first_tree : Setting → Tree × ℕ
first_tree s = let cells = allowed_cells s in
    (node 0 nothing nothing (fresh cells), area_at s + block_size (length cells))

-- Seq: the tree and `next` after all playouts
abbrev pub seq_of : Setting → Tree × ℕ
seq_of s = walks (search_game s) (root_state s) (first_tree s) s.knobs.playouts
