-- What the laws of truth speak of: more cells or stones, later boards, and the player's edges.
use Rattle.std.specs.Prelude.{◌≡◌, ℕ, true, false}
use Rattle.hex_cells.specs.Sets.{has, with_cell, without_cell}
use Rattle.hex_board.specs.Elements.{PlayerBoard, edge_element}
use Rattle.hex_board.specs.Positions.{AllEmpty, IsPosition, Position, Within, stones_of}
use Rattle.conn_store.specs.Entries.{Connects}
use Rattle.conn_store.specs.declared.entries.Kind.{Kind}
use Rattle.conn_store.specs.declared.entries.Kind.TheVariants.{Full}

-- the elements are those of a board
abbrev pub AreOfBoard : PlayerBoard → Type 0
AreOfBoard e = IsPosition e.board.size e.board.black e.board.white

-- each cell of the set a is in b
abbrev pub IsSubset : ℕ → ℕ → Type 0
IsSubset a b = (k : ℕ) → has a k ≡ true → has b k ≡ true

-- with one more stone of the player, on a cell of c, he is sure inside the rest of c
abbrev pub ConnectsInRest : PlayerBoard → ℕ → ℕ → ℕ → ℕ → Type 0
ConnectsInRest e x y s c =
    (k : ℕ) → has c k ≡ true → Connects Full e x y (with_cell s k) (without_cell c k)

-- p has the size of the board of the elements, on which the player's stones lie, and his stones
-- or more
pub record IsLater (e : PlayerBoard) (p : Position) : Type 0 where
  pub on_board : Within e.board.size (stones_of e.board e.player)
  pub size : p.size ≡ e.board.size
  pub stones : IsSubset (stones_of e.board e.player) (stones_of p e.player)

-- on the later board p the player is sure of linking the elements of his two edges inside the
-- empty cells c
pub record IsSureOfEdges (kind : Kind) (e : PlayerBoard) (p : Position) (c : ℕ) : Type 0 where
  pub later : IsLater e p
  pub empty : AllEmpty p c
  pub sure : Connects kind e (edge_element e false) (edge_element e true) (stones_of p e.player) c
