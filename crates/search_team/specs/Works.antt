-- A seat before and after its worker has worked.
use Rattle.std.specs.Prelude.{◌≡◌, ℕ, None, []}
use Rattle.arena_rule.specs.Views.{HasDrawnNothing, HasEnded}
use Rattle.arena_rule.specs.IsView.{IsView}
use Rattle.tree_rule.specs.Seats.{TreeData, SeatData, IsOf}

-- the seat is of the tree, stands for this many workers, has drawn nothing and owes nothing; a
-- single worker has no copy of the words
pub record IsFresh (tree : TreeData) (seat : SeatData) (workers : ℕ) : Type 0 where
  pub own : IsOf tree seat
  pub width : seat.view.width ≡ workers
  pub nothing : HasDrawnNothing seat.view
  pub order : IsView seat.view
  pub owed : seat.owed ≡ []
  pub lone : workers ≡ 1 → seat.view.whole ≡ None

-- the seat is of the tree, stands for this many workers, they have ended, and it owes nothing
pub record IsDone (tree : TreeData) (seat : SeatData) (workers : ℕ) : Type 0 where
  pub own : IsOf tree seat
  pub width : seat.view.width ≡ workers
  pub ended : HasEnded seat.view
  pub order : IsView seat.view
  pub owed : seat.owed ≡ []
