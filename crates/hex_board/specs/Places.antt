-- Places that a path may go through: the cells of a board and a player's two edges; which of them
-- lie side by side, and which an element has.
use Rattle.std.specs.Prelude.{◌≡◌, ◌≢◌, ℕ, ◌==◌, ◌&&◌, not, nat_eq, Bool, true, false, List, []}
use Rattle.std.specs.Prelude.{◌∷◌, Option, Some, map}
use Rattle.std.specs.List.{find, list_any}
use Rattle.std.specs.Option.{option_eq}
use Rattle.hex_cells.specs.Edges.{on_edge}
use Rattle.hex_cells.specs.Graph.{Neighbour, is_neighbour}
use Rattle.hex_cells.specs.declared.colours.Colour.{Colour}
use Rattle.hex_board.specs.Elements.{PlayerBoard, HasCell, edge_element, element_of}
use Rattle.hex_board.specs.Joined.{cells_of}
use Rattle.hex_board.specs.Positions.{is_empty_at}

-- a place: a cell, or an edge of a player, his first (false) or his second (true)
pub data Place : Type 0 where
  at_cell : ℕ → Place
  at_edge : Bool → Place

-- two places lie side by side on the board of size n: cells that are neighbours, or an edge of the
-- player and a cell on it
abbrev pub Beside : ℕ → Colour → Place → Place → Type 0
Beside n player (at_cell a) (at_cell b) = Neighbour n a b
Beside n player (at_cell a) (at_edge second) = on_edge player second n a ≡ true
Beside n player (at_edge second) (at_cell b) = on_edge player second n b ≡ true
Beside n player (at_edge second) (at_edge other) = ⊥

-- p, then ps, are places that pass, each beside the one before
abbrev pub Route : ℕ → Colour → (Place → Type 0) → Place → List Place → Type 0
Route n player Passes p [] = Passes p
Route n player Passes p (q ∷ qs) = Passes p × Beside n player p q × Route n player Passes q qs

-- the last of p, then ps
abbrev pub last_place : Place → List Place → Place
last_place p [] = p
last_place p (q ∷ qs) = last_place q qs

-- element x has the place: the cell is in it, or it holds the edge
abbrev pub IsMember : PlayerBoard → ℕ → Place → Type 0
IsMember e x (at_cell k) = HasCell e x k
IsMember e x (at_edge second) = edge_element e second ≡ x

-- x and y differ, and a place of one lies beside a place of the other
abbrev pub Near : PlayerBoard → ℕ → ℕ → Type 0
Near e x y =
    (x ≢ y) × (p : Place) × (q : Place) × IsMember e x p × IsMember e y q
    × Beside e.board.size e.player p q

-- the places of the board of size n
abbrev pub places_of : ℕ → List Place
places_of n = at_edge false ∷ at_edge true ∷ map at_cell (cells_of n)

-- the test of Beside
abbrev pub are_beside : ℕ → Colour → Place → Place → Bool
are_beside n player (at_cell a) (at_cell b) = is_neighbour n a b
are_beside n player (at_cell a) (at_edge second) = on_edge player second n a
are_beside n player (at_edge second) (at_cell b) = on_edge player second n b
are_beside n player (at_edge second) (at_edge other) = false

-- the test of IsMember
abbrev pub is_member : PlayerBoard → ℕ → Place → Bool
is_member e x (at_cell k) = option_eq nat_eq (element_of e k) (Some x)
is_member e x (at_edge second) = edge_element e second == x

-- the test of Near
abbrev pub is_near : PlayerBoard → ℕ → ℕ → Bool
is_near e x y = not (x == y) && list_any
    (λ p. is_member e x p
    && list_any (λ q. is_member e y q && are_beside e.board.size e.player p q)
    (places_of e.board.size))
    (places_of e.board.size)

-- the empty cell that element x is, if it is one
abbrev pub cell_of : PlayerBoard → ℕ → Option ℕ
cell_of e x = find (λ k. is_empty_at e.board k && is_member e x (at_cell k)) (cells_of e.board.size)
