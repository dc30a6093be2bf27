-- The edges of the players.
use Rattle.std.specs.Prelude.{ℕ, ◌-◌, ◌*◌, ◌/◌, ◌%◌, ◌==◌, ◌&&◌, nat_lt, Bool, true, false}
use Rattle.hex_cells.specs.declared.colours.Colour.{Colour}
use Rattle.hex_cells.specs.declared.colours.Colour.TheVariants.{Black, White}

-- Cell k of the board of size n lies on the player's first edge, or on his second. Black's edges
-- are the first and the last row, White's the first and the last column.
abbrev pub on_edge : Colour → Bool → ℕ → ℕ → Bool
on_edge Black false n k = nat_lt k (n * n) && k / n == 0
on_edge Black true n k = nat_lt k (n * n) && k / n == n - 1
on_edge White false n k = nat_lt k (n * n) && k % n == 0
on_edge White true n k = nat_lt k (n * n) && k % n == n - 1
