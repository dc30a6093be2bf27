-- Groups of stones, by paths.
use Rattle.std.specs.Prelude.{◌≡◌, ℕ, ◌<◌, List, true}
use Rattle.hex_cells.specs.Sets.{has}
use Rattle.hex_board.specs.Joined.{Path, last_of}

-- a path in s leads from a to b
abbrev pub Links : ℕ → ℕ → ℕ → ℕ → Type 0
Links n s a b = (xs : List ℕ) × Path n s a xs × (last_of a xs ≡ b)

-- k is the least cell of its group in s
abbrev pub IsRoot : ℕ → ℕ → ℕ → Type 0
IsRoot n s k = (has s k ≡ true) × ((j : ℕ) → j < k → ¬ (Links n s j k))
