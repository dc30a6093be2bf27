-- The board graph.
use Rattle.std.specs.Prelude.{◌≡◌, ℕ, ◌+◌, ◌*◌, ◌/◌, ◌%◌, ◌<◌, ◌==◌, ◌&&◌, ◌||◌, nat_lt, Bool, true}
use Rattle.hex_cells.specs.Sets.{has}

-- b lies one step from a in one of the six directions; cell k has the column k % n and the row k /
-- n
pub data Adjacent (n a b : ℕ) : Type 0 where
  east : b % n ≡ a % n + 1 → b / n ≡ a / n → Adjacent n a b
  west : a % n ≡ b % n + 1 → b / n ≡ a / n → Adjacent n a b
  south : b % n ≡ a % n → b / n ≡ a / n + 1 → Adjacent n a b
  north : b % n ≡ a % n → a / n ≡ b / n + 1 → Adjacent n a b
  north_east : b % n ≡ a % n + 1 → a / n ≡ b / n + 1 → Adjacent n a b
  south_west : a % n ≡ b % n + 1 → b / n ≡ a / n + 1 → Adjacent n a b

-- a and b are cells of the board of size n, and neighbours
pub record Neighbour (n a b : ℕ) : Type 0 where
  pub from : a < n * n
  pub to : b < n * n
  pub step : Adjacent n a b

-- a neighbour of d is in the set s
abbrev pub Bordered : ℕ → ℕ → ℕ → Type 0
Bordered n s d = (c : ℕ) × (has s c ≡ true) × Neighbour n c d

-- (d, q) lies one step from (c, r) in one of the six directions, as columns and rows: the test of
-- Adjacent
abbrev pub is_adjacent : ℕ → ℕ → ℕ → ℕ → Bool
is_adjacent c r d q =
    ((d == c + 1 && q == r) || (c == d + 1 && q == r))
    || ((d == c && q == r + 1) || (d == c && r == q + 1))
    || ((d == c + 1 && r == q + 1) || (c == d + 1 && q == r + 1))

-- the test of Neighbour
abbrev pub is_neighbour : ℕ → ℕ → ℕ → Bool
is_neighbour n a b =
    nat_lt a (n * n) && nat_lt b (n * n) && is_adjacent (a % n) (a / n) (b % n) (b / n)
