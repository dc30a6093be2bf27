-- Boards with stones, as plain data.
use Rattle.std.specs.Prelude.{◌≡◌, ℕ, ◌*◌, ◌<◌, ◌≤◌, ◌&&◌, not, nat_lt, Bool, true, false, Option}
use Rattle.std.specs.Prelude.{Some, None, if◌then◌else◌}
use Rattle.hex_cells.specs.Colours.{other_of}
use Rattle.hex_cells.specs.Sets.{has, with_cell}
use Rattle.hex_cells.specs.declared.colours.Colour.{Colour}
use Rattle.hex_cells.specs.declared.colours.Colour.TheVariants.{Black, White}
use Rattle.hex_cells.specs.declared.board_size.TheConstants.Size.{MAX}

-- no cell is in both sets
abbrev pub Apart : ℕ → ℕ → Type 0
Apart a b = (k : ℕ) → has a k ≡ true → ¬ (has b k ≡ true)

-- the set's cells lie on the board of size n
abbrev pub Within : ℕ → ℕ → Type 0
Within n s = (k : ℕ) → has s k ≡ true → k < n * n

-- a board with stones, as plain data: its size and the numbers of the two sets of stones
pub record Position : Type 0 where
  pub size : ℕ
  pub black : ℕ
  pub white : ℕ

-- what holds of the parts of each board: a size from 1 to 11, and stones on the board that are
-- apart
pub record IsPosition (size black white : ℕ) : Type 0 where
  pub least : 1 ≤ size
  pub most : size ≤ MAX
  pub apart : Apart black white
  pub black_on : Within size black
  pub white_on : Within size white

-- the board of size n without stones
abbrev pub empty_board : ℕ → Position
empty_board n = record { size = n; black = 0; white = 0 }

-- the player's stones
abbrev pub stones_of : Position → Colour → ℕ
stones_of p Black = p.black
stones_of p White = p.white

-- cell k lies on the board and has no stone
abbrev pub is_empty_at : Position → ℕ → Bool
is_empty_at p k = nat_lt k (p.size * p.size) && not (has p.black k) && not (has p.white k)

-- the cells of the set s are empty
abbrev pub AllEmpty : Position → ℕ → Type 0
AllEmpty p s = (k : ℕ) → has s k ≡ true → is_empty_at p k ≡ true

-- the stone on cell k
abbrev pub stone_at : Position → ℕ → Option Colour
stone_at p k = if has p.black k then Some Black else (if has p.white k then Some White else None)

-- a stone of the player lies on cell k, and none of the other player
abbrev pub HasStone : Position → Colour → ℕ → Type 0
HasStone p c k = (has (stones_of p c) k ≡ true) × (has (stones_of p (other_of c)) k ≡ false)

-- the board with one more stone of the player, on cell k
abbrev pub placed : Position → Colour → ℕ → Position
placed p Black k = record { size = p.size; black = with_cell p.black k; white = p.white }
placed p White k = record { size = p.size; black = p.black; white = with_cell p.white k }
