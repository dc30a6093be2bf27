-- The elements of a player on a board, and how they are numbered.
use Rattle.std.specs.Prelude.{◌≡◌, ℕ, ◌+◌, ◌*◌, ◌==◌, ◌&&◌, ◌||◌, ◌⊎◌, not, Bool, true, false}
use Rattle.std.specs.Prelude.{Option}
use Rattle.std.specs.Prelude.{Some, count_by, if◌then◌else◌}
use Rattle.std.specs.List.{find, list_any, range_with_len}
use Rattle.std.specs.Option.{option_map}
use Rattle.hex_cells.specs.Sets.{has}
use Rattle.hex_cells.specs.Edges.{on_edge}
use Rattle.hex_cells.specs.declared.colours.Colour.{Colour}
use Rattle.hex_board.specs.Joined.{cells_of, leads_in, is_joined}
use Rattle.hex_board.specs.Positions.{Position, stones_of, is_empty_at}

-- what elements are taken of: the player's, on a board
pub record PlayerBoard : Type 0 where
  pub board : Position
  pub player : Colour

-- whether a path of the player's stones leads from cell a to cell b
abbrev pub is_linked : PlayerBoard → ℕ → ℕ → Bool
is_linked e a b =
    leads_in (e.board.size * e.board.size) e.board.size (stones_of e.board e.player) (λ k. k == b) a

-- whether a path of the player's stones leads from cell k to a stone on his first edge, or on his
-- second
abbrev pub is_tied : PlayerBoard → Bool → ℕ → Bool
is_tied e second k =
    leads_in (e.board.size * e.board.size) e.board.size (stones_of e.board e.player)
    (on_edge e.player second e.board.size) k

-- whether the player's edges are joined
abbrev pub are_joined : PlayerBoard → Bool
are_joined e = is_joined e.board.size e.player (stones_of e.board e.player)

-- whether cell k is the least stone of its group
abbrev pub is_root : PlayerBoard → ℕ → Bool
is_root e k =
    has (stones_of e.board e.player) k && not (list_any (λ j. is_linked e j k) (range_with_len 0 k))

-- whether cell k is the least cell of an element without an edge: an empty cell, or the least stone
-- of a group that is tied to neither edge
abbrev pub is_head : PlayerBoard → ℕ → Bool
is_head e k =
    is_empty_at e.board k || (is_root e k && not (is_tied e false k) && not (is_tied e true k))

-- the element that holds the first edge, or the second
abbrev pub edge_element : PlayerBoard → Bool → ℕ
edge_element e false = 0
edge_element e true = if are_joined e then 0 else 1

-- how many elements hold an edge
abbrev pub edge_elements : PlayerBoard → ℕ
edge_elements e = if are_joined e then 1 else 2

-- the element with the least cell k, and without an edge: first come the elements with an edge,
-- then the others in rising order of their least cells
abbrev pub head_element : PlayerBoard → ℕ → ℕ
head_element e k = edge_elements e + count_by (is_head e) (range_with_len 0 k)

-- how many elements there are
abbrev pub element_count : PlayerBoard → ℕ
element_count e = edge_elements e + count_by (is_head e) (cells_of e.board.size)

-- the element of cell k: an empty cell by itself, else what its stone's group is: that of an edge,
-- or the one with the group's least cell; no element holds a stone of the other player
abbrev pub element_of : PlayerBoard → ℕ → Option ℕ
element_of e k =
    if is_empty_at e.board k then Some (head_element e k)
    else (if is_tied e false k then Some (edge_element e false)
    else (if is_tied e true k then Some (edge_element e true)
    else option_map (head_element e) (find (λ j. is_linked e j k) (cells_of e.board.size))))

-- cell k is in element x
abbrev pub HasCell : PlayerBoard → ℕ → ℕ → Type 0
HasCell e x k = element_of e k ≡ Some x

-- stones a and b are tied to edges of one element
abbrev pub TiedAlike : PlayerBoard → ℕ → ℕ → Type 0
TiedAlike e a b = (s : Bool) × (t : Bool) × (is_tied e s a ≡ true) × (is_tied e t b ≡ true)
    × (edge_element e s ≡ edge_element e t)

-- what two cells of one element are: one cell, or stones that are linked, or stones that are tied
-- to edges of one element
abbrev pub Together : PlayerBoard → ℕ → ℕ → Type 0
Together e a b = (a ≡ b) ⊎ ((is_linked e a b ≡ true) ⊎ TiedAlike e a b)
