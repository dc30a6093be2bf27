-- Who wins a position, told move by move, and how many positions a plain search enters.
use Rattle.std.specs.Prelude.{ℕ, ◌+◌, ◌*◌, ◌&&◌, ◌||◌, not, Bool, false, zero, suc, List}
use Rattle.std.specs.Prelude.{[], ◌∷◌, Option, Some, None, if◌then◌else◌}
use Rattle.std.specs.List.{list_all, list_any}
use Rattle.std.specs.Option.{is_some, option_map_or}
use Rattle.hex_cells.specs.Colours.{is_same, other_of}
use Rattle.hex_cells.specs.declared.colours.Colour.{Colour}
use Rattle.hex_board.specs.Joined.{cells_of, winner_of}
use Rattle.hex_board.specs.Positions.{Position, is_empty_at, placed}
use Rattle.hex_board.specs.Wins.{empty_count}

-- whether the answer is this colour
abbrev pub is_for : Colour → Option Colour → Bool
is_for c o = option_map_or (is_same c) o false

-- on a board on which nobody is joined: the player to place if some stone of his leads to a win of
-- his, else the other if each leads to a win of the other's; nobody if no cell is empty
abbrev pub decided : (Position → Colour → Option Colour) → Position → Colour → Option Colour
decided next p mover =
    if list_any (λ k. is_empty_at p k && is_for mover (next (placed p mover k) (other_of mover)))
    (cells_of p.size) then Some mover
    else (if list_any (is_empty_at p) (cells_of p.size)
    && list_all (λ k. not (is_empty_at p k)
    || is_for (other_of mover) (next (placed p mover k) (other_of mover))) (cells_of p.size)
    then Some (other_of mover) else None)

-- who wins the position if both play for it, `mover` placing next, told with `fuel` stones more
abbrev pub first_in : ℕ → Position → Colour → Option Colour
first_in zero p mover = winner_of p
first_in (suc fuel) p mover =
    if is_some (winner_of p) then winner_of p else decided (first_in fuel) p mover

abbrev pub first : Position → Colour → Option Colour
first p mover = first_in (empty_count p) p mover

-- the sum over the empty cells among these, in their order, up to the first at which the test
-- passes
abbrev pub sum_up_to : (ℕ → Bool) → (ℕ → Bool) → (ℕ → ℕ) → List ℕ → ℕ
sum_up_to empty test f [] = 0
sum_up_to empty test f (k ∷ cells) =
    if empty k then (if test k then f k else f k + sum_up_to empty test f cells)
    else sum_up_to empty test f cells

-- how many positions a search enters that tries the cells in rising order, up to the first that
-- wins, with `fuel` stones more
abbrev pub positions_needed_in : ℕ → Position → Colour → ℕ
positions_needed_in zero p mover = 1
positions_needed_in (suc fuel) p mover =
    if is_some (winner_of p) then 1
    else 1 + sum_up_to (is_empty_at p)
    (λ k. is_for mover (first_in fuel (placed p mover k) (other_of mover)))
    (λ k. positions_needed_in fuel (placed p mover k) (other_of mover))
    (cells_of p.size)

abbrev pub positions_needed : Position → Colour → ℕ
positions_needed p mover = positions_needed_in (empty_count p) p mover

-- how many lines a certificate has by which such a search shows that player c wins: two, and those
-- of each position that it enters after a stone; none if he doesn't win
abbrev pub lines_needed_in : Colour → ℕ → Position → Colour → ℕ
lines_needed_in c zero p mover = if is_for c (winner_of p) then 2 else 0
lines_needed_in c (suc fuel) p mover =
    if is_for c (first_in (suc fuel) p mover) then 2 + (if is_some (winner_of p) then 0
    else sum_up_to (is_empty_at p)
    (λ k. is_for mover (first_in fuel (placed p mover k) (other_of mover)))
    (λ k. lines_needed_in c fuel (placed p mover k) (other_of mover))
    (cells_of p.size))
    else 0

abbrev pub lines_needed : Colour → Position → Colour → ℕ
lines_needed c p mover = lines_needed_in c (empty_count p) p mover

-- m · (m - 1) · .. , i factors
abbrev pub falling : ℕ → ℕ → ℕ
falling m zero = 1
falling zero (suc i) = 0
falling (suc m) (suc i) = suc m * falling m i

-- the sum of these for the numbers of factors up to i
abbrev pub falls : ℕ → ℕ → ℕ
falls m zero = falling m 0
falls m (suc i) = falls m i + falling m (suc i)

-- the most positions that a search enters if m cells are empty: each list of different cells is
-- one
abbrev pub bound : ℕ → ℕ
bound m = falls m m
