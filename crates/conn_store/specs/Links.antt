-- Elements that stones link.
use Rattle.std.specs.Prelude.{◌≡◌, ℕ, ◌⊎◌, true, List}
use Rattle.hex_cells.specs.Sets.{has}
use Rattle.hex_board.specs.Elements.{PlayerBoard, HasCell}
use Rattle.hex_board.specs.Places.{Place, at_cell, at_edge, IsMember, Route, last_place}

-- what a path between elements x and y may go through: the cells of s, of x and of y, and the
-- player's edges
abbrev pub MayPass : PlayerBoard → ℕ → ℕ → ℕ → Place → Type 0
MayPass e x y s (at_cell k) = (has s k ≡ true) ⊎ (HasCell e x k ⊎ HasCell e y k)
MayPass e x y s (at_edge second) = Unit {0}

-- a path leads from a place of element x to one of element y through the stones s
abbrev pub StonesLink : PlayerBoard → ℕ → ℕ → ℕ → Type 0
StonesLink e x y s =
    (p : Place) × (ps : List Place) × IsMember e x p × IsMember e y (last_place p ps)
    × Route e.board.size e.player (MayPass e x y s) p ps
