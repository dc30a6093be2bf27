-- The position of mode bench: a prefix of the shuffled cells has stones, in turn.
use Rattle.std.specs.Prelude.{ℕ, zero, suc, ◌+◌, ◌*◌, ◌/◌, ◌≡◌, Bool, List, take, not, is_some}
use Rattle.std.specs.List.{prefix_len, range_with_len}
use Rattle.hex_cells.specs.Colours.{other_of}
use Rattle.hex_cells.specs.declared.colours.Colour.{Colour}
use Rattle.hex_cells.specs.declared.colours.Colour.TheVariants.{Black}
use Rattle.hex_board.specs.Joined.{winner_of}
use Rattle.hex_board.specs.Positions.{Position, empty_board}
use Rattle.play_out.specs.Fills.{filled_by, order_of}
use Rattle.turn_modes.specs.declared.positions.BenchPosition.{BenchPosition}

-- the cells of the board of this size, as they are shuffled with this seed
abbrev pub shuffled_cells : ℕ → ℕ → List ℕ
shuffled_cells size seed = order_of (empty_board size) seed 0

-- the board after stones on the first m of the cells, in turn, Black's first
unfoldable pub board_on : ℕ → List ℕ → ℕ → Position
board_on size cells m = filled_by (empty_board size) Black (take m cells)

-- who places the stone after the first m: Black the first, and then the players in turn
abbrev pub mover_after : ℕ → Colour
mover_after zero = Black
mover_after (suc m) = other_of (mover_after m)

-- nobody is joined on the board
abbrev pub is_open : Position → Bool
is_open p = not (is_some (winner_of p))

-- how many stones are placed: of a third of the board's cells, rounded down, all before the first
-- that joins its player
unfoldable pub placed_count : ℕ → List ℕ → ℕ
placed_count size cells = prefix_len (λ m. is_open (board_on size cells (m + 1)))
    (range_with_len 0 (size * size / 3))

-- the position after stones on the longest such prefix of these cells
pub record IsPlacedOn (size : ℕ) (cells : List ℕ) (p : BenchPosition) : Type 0 where
  pub stones : p.stones ≡ placed_count size cells
  pub board : p.board ≡ board_on size cells p.stones
  pub colour : p.colour ≡ mover_after p.stones

-- the position of mode bench on a board of this size, with this seed
abbrev pub IsBenchPosition : ℕ → ℕ → BenchPosition → Type 0
IsBenchPosition size seed = IsPlacedOn size (shuffled_cells size seed)
