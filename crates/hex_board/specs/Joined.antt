-- Paths of stones, and whether they join a player's edges.
use Rattle.std.specs.Prelude.{◌≡◌, ℕ, ◌*◌, ◌&&◌, ◌||◌, List, [], ◌∷◌, Bool, true, false, zero, suc}
use Rattle.std.specs.Prelude.{Option, Some, None, if◌then◌else◌}
use Rattle.std.specs.List.{list_any, range_with_len}
use Rattle.hex_cells.specs.Sets.{has, without_cell}
use Rattle.hex_cells.specs.Graph.{Neighbour, is_neighbour}
use Rattle.hex_cells.specs.Edges.{on_edge}
use Rattle.hex_cells.specs.declared.colours.Colour.{Colour}
use Rattle.hex_cells.specs.declared.colours.Colour.TheVariants.{Black, White}
use Rattle.hex_board.specs.Positions.{Position}

-- x, then xs, are cells of the set s, each a neighbour of the one before on the board of size n
abbrev pub Path : ℕ → ℕ → ℕ → List ℕ → Type 0
Path n s x [] = has s x ≡ true
Path n s x (y ∷ ys) = (has s x ≡ true) × Neighbour n x y × Path n s y ys

-- the last of x, then xs
abbrev pub last_of : ℕ → List ℕ → ℕ
last_of x [] = x
last_of x (y ∷ ys) = last_of y ys

-- a path in s leads from x to a cell of g
abbrev pub Leads : ℕ → ℕ → ℕ → ℕ → Type 0
Leads n s g x = (xs : List ℕ) × Path n s x xs × (has g (last_of x xs) ≡ true)

-- a path of the stones s leads from the player's first edge to his second
abbrev pub Joined : ℕ → Colour → ℕ → Type 0
Joined n colour s =
    (x : ℕ) × (xs : List ℕ) × Path n s x xs × (on_edge colour false n x ≡ true)
    × (on_edge colour true n (last_of x xs) ≡ true)

-- the cells of the board of size n
abbrev pub cells_of : ℕ → List ℕ
cells_of n = range_with_len 0 (n * n)

-- whether a path of at most `fuel` cells of s, none twice, leads from x to a cell that passes the
-- test: x is in s, and x passes, or a neighbour has such a path in s without x
unfoldable pub leads_in : ℕ → ℕ → ℕ → (ℕ → Bool) → ℕ → Bool
leads_in zero n s test x = false
leads_in (suc fuel) n s test x =
    has s x &&
    (test x || list_any (λ y. is_neighbour n x y && leads_in fuel n (without_cell s x) test y)
    (cells_of n))

-- whether the stones s join the player's edges: the test of Joined; no path needs more cells than
-- the board has
unfoldable pub is_joined : ℕ → Colour → ℕ → Bool
is_joined n colour s =
    list_any (λ x. on_edge colour false n x && leads_in (n * n) n s (on_edge colour true n) x)
    (cells_of n)

-- Black if Black is joined, else White if White is joined
abbrev pub winner_of : Position → Option Colour
winner_of p =
    if is_joined p.size Black p.black then Some Black
    else (if is_joined p.size White p.white then Some White else None)
