-- Playouts: the empty cells, their order, the filled board and the result.
use Rattle.std.specs.Prelude.{◌≡◌, ℕ, ◌-◌, ◌==◌, List, [], ◌∷◌, length, count_by, if◌then◌else◌}
use Rattle.std.specs.List.{filter}
use Rattle.hex_cells.specs.Colours.{other_of}
use Rattle.hex_cells.specs.declared.colours.Colour.{Colour}
use Rattle.hex_cells.specs.declared.colours.Colour.TheVariants.{Black, White}
use Rattle.hex_board.specs.Joined.{cells_of, is_joined}
use Rattle.hex_board.specs.Positions.{Position, is_empty_at, placed}
use Rattle.play_out.specs.Streams.{stream_at, state_for, words_of, shuffled}

-- the empty cells of a board, in rising order
unfoldable pub empties_of : Position → List ℕ
empties_of p = filter (is_empty_at p) (cells_of p.size)

-- each empty cell of the board stands in the list once, and no other cell does
abbrev pub ListsEmpties : Position → List ℕ → Type 0
ListsEmpties p cells = (k : ℕ) → count_by (λ c. c == k) cells ≡ (if is_empty_at p k then 1 else 0)

-- the empty cells of a board in the order in which playout k of a search with this seed fills them
unfoldable pub order_of : Position → ℕ → ℕ → List ℕ
order_of p seed k =
    let last = length (empties_of p) - 1 in
    shuffled last (words_of last (stream_at (state_for seed k))) (empties_of p)

-- the board after stones on these cells, in turn, the player's first
unfoldable pub filled_by : Position → Colour → List ℕ → Position
filled_by p player [] = p
filled_by p player (c ∷ cells) = filled_by (placed p player c) (other_of player) cells

-- the filled board of playout k of a search with this seed, from a board on which the player is to
-- move
unfoldable pub filled : Position → Colour → ℕ → ℕ → Position
filled p player seed k = filled_by p player (order_of p seed k)

-- who has won on a filled board of this size if these are Black's stones: Black if he is
-- joined, else White
abbrev pub winner_by : ℕ → ℕ → Colour
winner_by size black = if is_joined size Black black then Black else White

-- the result of that playout
unfoldable pub playout_of : Position → Colour → ℕ → ℕ → Colour
playout_of p player seed k = let full = filled p player seed k in winner_by full.size full.black
