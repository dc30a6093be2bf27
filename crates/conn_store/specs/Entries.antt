-- Entries: which are valid, and which are true.
use Rattle.std.specs.Prelude.{◌≡◌, ℕ, ◌<◌, true, min, max}
use Rattle.hex_cells.specs.Sets.{has}
use Rattle.hex_board.specs.Elements.{PlayerBoard, HasCell, element_count}
use Rattle.hex_board.specs.Positions.{AllEmpty, stones_of}
use Rattle.conn_store.specs.Links.{StonesLink}
use Rattle.conn_store.specs.Truth.{IsSure}
use Rattle.conn_store.specs.declared.entries.Entry.{Entry}
use Rattle.conn_store.specs.declared.entries.Kind.{Kind}

-- no cell of element x is in the set c
abbrev pub Misses : PlayerBoard → ℕ → ℕ → Type 0
Misses e x c = (k : ℕ) → HasCell e x k → ¬ (has c k ≡ true)

-- an entry of two elements, the lesser first, with a carrier of empty cells, none of them a cell
-- of these elements
pub record IsValid (e : PlayerBoard) (entry : Entry) : Type 0 where
  pub order : entry.x < entry.y
  pub elements : entry.y < element_count e
  pub empty : AllEmpty e.board entry.carrier
  pub first : Misses e entry.x entry.carrier
  pub second : Misses e entry.y entry.carrier

-- with the stones s the player is sure of linking elements x and y inside the carrier c
abbrev pub Connects : Kind → PlayerBoard → ℕ → ℕ → ℕ → ℕ → Type 0
Connects kind e x y s c = IsSure kind (StonesLink e x y) s c

-- with his stones on the board the player is sure of linking the entry's elements inside its
-- carrier
abbrev pub IsTrueEntry : PlayerBoard → Entry → Type 0
IsTrueEntry e entry =
    Connects entry.kind e entry.x entry.y (stones_of e.board e.player) entry.carrier

-- the entry is one of elements x and y, in either order
abbrev pub IsBetween : Entry → ℕ → ℕ → Type 0
IsBetween entry x y = (entry.x ≡ min x y) × (entry.y ≡ max x y)
