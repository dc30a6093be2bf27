-- What the tables of a player's elements keep. Only private clauses cite these.
use Rattle.std.specs.Prelude.{◌≡◌, ℕ, ◌<◌, ◌≤◌, ◌↔◌, IsTrue, Bool, true, false, List, get_or}
use Rattle.hex_cells.specs.Sets.{has}
use Rattle.hex_cells.specs.Colours.{other_of}
use Rattle.hex_cells.specs.Edges.{on_edge}
use Rattle.hex_cells.specs.declared.board_size.TheConstants.Size.{MAX}
use Rattle.hex_board.specs.Elements.{PlayerBoard, HasCell, are_joined, edge_element, element_count}
use Rattle.hex_board.specs.Elements.{is_head, is_tied}
use Rattle.hex_board.specs.declared.numbering.TheConstants.{MOST_ELEMENTS}
use Rattle.hex_board.specs.Places.{Place, at_cell, Beside, IsMember}
use Rattle.hex_board.specs.Positions.{Apart, Within, stones_of}

-- cell k lies on an edge that element x holds
abbrev pub IsOnEdgeOf : PlayerBoard → ℕ → ℕ → Type 0
IsOnEdgeOf e x k =
    (second : Bool) × (edge_element e second ≡ x) × (on_edge e.player second e.board.size k ≡ true)

-- cell k lies beside a place of element x
abbrev pub Reaches : PlayerBoard → ℕ → ℕ → Type 0
Reaches e x k = (p : Place) × IsMember e x p × Beside e.board.size e.player p (at_cell k)

-- a cell of element y lies beside a place of element x
abbrev pub Meets : PlayerBoard → ℕ → ℕ → Type 0
Meets e x y = (k : ℕ) × Reaches e x k × HasCell e y k

-- tables of the cells of each element, and of the cells beside it
pub record IsTabled (e : PlayerBoard) (parts reaches : List ℕ) : Type 0 where
  pub few : element_count e ≤ MOST_ELEMENTS
  pub held : (x k : ℕ) → x < element_count e → IsTrue (has (get_or parts x 0) k) ↔ HasCell e x k
  pub reached : (x k : ℕ) → x < element_count e → IsTrue (has (get_or reaches x 0) k)
      ↔ Reaches e x k

-- what is kept of a player's board: whether his edges are joined, the stones tied to each, and the
-- least cells of the other elements; and that the stones lie on a board of at most 11 by 11 cells,
-- apart from the other player's
pub record IsNumbered (e : PlayerBoard) (joined : Bool) (first second heads : ℕ) : Type 0 where
  pub joins : joined ≡ are_joined e
  pub to_first : (k : ℕ) → has first k ≡ is_tied e false k
  pub to_second : (k : ℕ) → has second k ≡ is_tied e true k
  pub headed : (k : ℕ) → has heads k ≡ is_head e k
  pub sized : e.board.size ≤ MAX
  pub on_board : Within e.board.size (stones_of e.board e.player)
  pub apart : Apart (stones_of e.board e.player) (stones_of e.board (other_of e.player))
