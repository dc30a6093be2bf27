-- The visits of a cell in a report; and its best row, which proofs alone cite.
use Rattle.std.specs.Prelude.{ℕ, Bool, List, [], ◌∷◌, ◌&&◌, ◌||◌, ◌==◌, nat_lt, if◌then◌else◌}
use Rattle.tree_words.specs.declared.roots.Row.{Row}

-- row a is to be preferred to row b: it has more visits, or as many and a lower cell
abbrev pub is_preferred : Row → Row → Bool
is_preferred a b = nat_lt b.visits a.visits || ((a.visits == b.visits) && nat_lt a.cell b.cell)

-- of this row and the others, that to which none is to be preferred
abbrev pub preferred_of : Row → List Row → Row
preferred_of best [] = best
preferred_of best (row ∷ rows) = preferred_of (if is_preferred row best then row else best) rows

-- the cell of most visits, and of those with as many the lowest; 0 if there is no row
unfoldable pub best_cell : List Row → ℕ
best_cell [] = 0
best_cell (row ∷ rows) = (preferred_of row rows).cell

-- the visits of the row with this cell; 0 if there is none
unfoldable pub visits_of : List Row → ℕ → ℕ
visits_of [] cell = 0
visits_of (row ∷ rows) cell = if row.cell == cell then row.visits else visits_of rows cell
