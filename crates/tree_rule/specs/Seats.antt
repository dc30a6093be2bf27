-- What is seen of a tree and of its seats.
use Rattle.std.specs.Prelude.{◌≡◌, ℕ, List, []}
use Rattle.atomic_table.specs.Seated.{TableId}
use Rattle.atomic_table.specs.declared.shared.Seat.{Seat}
use Rattle.tree_words.specs.Settings.{Setting, IsSetting}
use Rattle.tree_words.specs.Words.{end_of}
use Rattle.tree_words.specs.Opening.{opening_words}
use Rattle.arena_rule.specs.Views.{SeatView}
use Rattle.arena_rule.specs.Adds.{CountAdd}
use Rattle.arena_rule.specs.IsView.{IsView}
use Rattle.arena_rule.specs.Owing.{Debtor, OwesRightly}

-- a tree: its table, and what is searched
pub record TreeData : Type 0 where
  pub table : TableId
  pub shape : Setting

-- a seat: the table of its tree, its view, and the adds that it owes
pub record SeatData : Type 0 where
  pub table : TableId
  pub view : SeatView
  pub owed : List CountAdd

abbrev pub debtor_of : SeatData → Debtor
debtor_of seat = record { view = seat.view; owed = seat.owed }

-- the seat is of the tree
pub record IsOf (tree : TreeData) (seat : SeatData) : Type 0 where
  pub table : seat.table ≡ tree.table
  pub shape : seat.view.shape ≡ tree.shape

-- the seat is of the table and holds no slot of it; its view is in order, it owes to seen words
-- alone, and the table has the words of the view's shape
pub record IsSeatOf (id : TableId) (seat : Seat ℕ Debtor) : Type 0 where
  pub table : seat.table_id ≡ id
  pub slots : seat.me.1 ≡ []
  pub words : id.words ≡ end_of seat.me.0.view.shape
  pub view : IsView seat.me.0.view
  pub owed : OwesRightly seat.me.0

-- the table has the words of the shape and no slots, and the room has the opening words
pub record IsTableFor (s : Setting) (id : TableId) (room : List ℕ) : Type 0 where
  pub setting : IsSetting s
  pub words : id.words ≡ end_of s
  pub slots : id.slots ≡ 0
  pub room_is : room ≡ opening_words s
