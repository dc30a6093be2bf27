-- Who wins if both players place in turn.
use Rattle.std.specs.Prelude.{◌≡◌, ℕ, ◌⊎◌, true, zero, suc, count_by, MatchBool}
pub use Rattle.hex_cells.specs.Colours.{is_same}
use Rattle.hex_cells.specs.Colours.{other_of}
use Rattle.hex_cells.specs.declared.colours.Colour.{Colour}
use Rattle.hex_board.specs.Joined.{cells_of, is_joined}
use Rattle.hex_board.specs.Positions.{Position, stones_of, is_empty_at, placed}

-- how many cells of the board have no stone
abbrev pub empty_count : Position → ℕ
empty_count p = count_by (is_empty_at p) (cells_of p.size)

-- The player wins within `fuel` more stones, with `mover` to place the next: he is joined; or a
-- cell is empty, and after some stone, if he is the mover, or after every stone, if the other
-- player is, he wins with the next player to move.
abbrev pub WinsIn : ℕ → Colour → Position → Colour → Type 0
WinsIn zero player p mover = is_joined p.size player (stones_of p player) ≡ true
WinsIn (suc fuel) player p mover =
    (is_joined p.size player (stones_of p player) ≡ true) ⊎ MatchBool (is_same player mover)
    ((k : ℕ) × (is_empty_at p k ≡ true) × WinsIn fuel player (placed p mover k) (other_of mover))
    (((k : ℕ) × (is_empty_at p k ≡ true))
    × ((k : ℕ) → is_empty_at p k ≡ true
    → WinsIn fuel player (placed p mover k) (other_of mover)))

-- the player wins the board whatever the other does, `mover` being to place the next stone: the
-- players place in turn until the board is full, and he has won if he is joined
abbrev pub Wins : Colour → Position → Colour → Type 0
Wins player p mover = WinsIn (empty_count p) player p mover

-- after some stone of his own the player wins
abbrev pub WinsByOwn : Colour → Position → Type 0
WinsByOwn player p =
    (k : ℕ) × (is_empty_at p k ≡ true) × Wins player (placed p player k) (other_of player)

-- a cell is empty, and after each stone of the other player he wins
abbrev pub WinsAfterEach : Colour → Position → Type 0
WinsAfterEach player p = ((k : ℕ) × (is_empty_at p k ≡ true))
    × ((k : ℕ) → is_empty_at p k ≡ true → Wins player (placed p (other_of player) k) player)
