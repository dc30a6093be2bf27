-- What a look-ahead found, and what holds of it.
use Rattle.std.specs.Prelude.{◌≡◌, ◌≢◌, ℕ, ◌+◌, ◌*◌, ◌^◌, ◌≤◌, ◌==◌, true, List, ◌∷◌, All, map}
use Rattle.std.specs.Prelude.{Option, Some, None, if◌then◌else◌}
use Rattle.std.specs.List.{AllPairs, Contains, filter, range_with_len}
use Rattle.hex_cells.specs.Colours.{other_of}
use Rattle.hex_cells.specs.Sets.{has}
use Rattle.hex_cells.specs.declared.board_size.TheConstants.{MOST_CELLS}
use Rattle.hex_cells.specs.declared.colours.Colour.{Colour}
use Rattle.hex_board.specs.Positions.{Position, is_empty_at, placed}
use Rattle.hex_board.specs.Wins.{Wins}
use Rattle.look_ahead.specs.declared.rows.LookRow.{LookRow}
use Rattle.look_ahead.specs.declared.rows.Outcome.{Outcome}
use Rattle.look_ahead.specs.declared.rows.Outcome.TheVariants.{Won, Lost}

-- the cell that it chose, how many nodes it has, and its rows
pub record LookedData : Type 0 where
  pub cell : ℕ
  pub nodes : ℕ
  pub rows : List LookRow

-- the cells of the set below n, each once, in rising order
unfoldable pub set_cells_below : ℕ → ℕ → List ℕ
set_cells_below set n = filter (has set) (range_with_len 0 n)

-- all cells of the set, each once, in rising order
abbrev pub set_cells : ℕ → List ℕ
set_cells set = set_cells_below set MOST_CELLS

-- the cells of the rows
abbrev pub cells_of_rows : List LookRow → List ℕ
cells_of_rows rows = map (λ (row : LookRow). row.cell) rows

-- who is known to win after the player's stone on cell k does: the player, with the other one to
-- move, or the other one, with himself to move
abbrev pub IsTrueOf : Position → Colour → ℕ → Option Outcome → Type 0
IsTrueOf board player k None = Unit {0}
IsTrueOf board player k (Some Won) = Wins player (placed board player k) (other_of player)
IsTrueOf board player k (Some Lost) =
    Wins (other_of player) (placed board player k) (other_of player)

-- the same of a row
abbrev pub IsTrueRow : Position → Colour → LookRow → Type 0
IsTrueRow board player row = IsTrueOf board player row.cell row.known

-- the cells of a line that goes on after a stone on cell k are empty on the board, and neither k
-- nor any of them comes twice: so the players can place on them in turn
pub record IsPlayableLine (board : Position) (k : ℕ) (line : List ℕ) : Type 0 where
  pub empty : All (λ c. is_empty_at board c ≡ true) line
  pub apart : AllPairs (λ a b. a ≢ b) (k ∷ line)

-- the line of a row goes on after its cell
abbrev pub IsLinedRow : Position → LookRow → Type 0
IsLinedRow board row = IsPlayableLine board row.cell row.line.items

-- the class of a row: known to be won 4, taken for won 3, taken for lost 1, known to be lost 0, and
-- any other 2
abbrev pub class_of : Option Outcome → ℕ → ℕ
class_of (Some Won) value = 4
class_of (Some Lost) value = 0
class_of None value = if value == 1000 then 3 else (if value == 0 then 1 else 2)

-- rows go by their class, and in a class by their walks, of which there are less than 2^32
abbrev pub rank_of : LookRow → ℕ
rank_of row = class_of row.known row.value * 2 ^ 32 + row.nodes

-- no row has a higher rank than this one
abbrev pub IsBestRow : List LookRow → LookRow → Type 0
IsBestRow rows row =
    Contains rows row × All (λ (other : LookRow). rank_of other ≤ rank_of row) rows

-- cell k is that of a row of the highest rank
abbrev pub IsBestCell : List LookRow → ℕ → Type 0
IsBestCell rows k = (row : LookRow) × IsBestRow rows row × (row.cell ≡ k)

-- what was found of these cells, on which the player on the board may place, with this budget
pub record IsLookOf (board : Position) (player : Colour) (allowed budget : ℕ)
    (looked : LookedData) : Type 0 where
  -- its rows are of the allowed cells, each once, in rising order
  pub cells : cells_of_rows looked.rows ≡ set_cells allowed
  -- it has the root, and no more nodes than the budget
  pub root : 1 ≤ looked.nodes
  pub few : looked.nodes ≤ budget
  -- it chose an allowed cell: that of a row of the highest rank
  pub among : has allowed looked.cell ≡ true
  pub best : IsBestCell looked.rows looked.cell
  -- whoever is known to win after a stone does
  pub known : All (IsTrueRow board player) looked.rows
  -- each line can be played after its row's cell
  pub lines : All (IsLinedRow board) looked.rows
