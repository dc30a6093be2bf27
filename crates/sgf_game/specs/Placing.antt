-- Placing stones one after the other, for private clauses.
use Rattle.std.specs.Prelude.{ℕ, ◌||◌, List, [], ◌∷◌, Option, Some, None, if◌then◌else◌}
use Rattle.hex_cells.specs.Sets.{has, with_cell}

-- The stones with one more on each of these cells, unless one is no cell, or holds a stone of these
-- or of the taken ones.
abbrev pub placed_on : ℕ → ℕ → List (Option ℕ) → Option ℕ
placed_on taken stones [] = Some stones
placed_on taken stones (None ∷ cells) = None
placed_on taken stones (Some k ∷ cells) =
    if has taken k || has stones k then None else placed_on taken (with_cell stones k) cells
