use Rattle.std.proofs.Common.{ℕ, ◌<◌, ◌↔◌, IsTrue, get_or, List}
use Rattle.hex_cells.specs.Sets.{has}
use Rattle.hex_board.specs.Elements.{HasCell, PlayerBoard}
use Rattle.hex_board.specs.ElementTables.{Reaches}
use Rattle.hex_board.proofs.boards.Board.elements.Given as goal

-- the tables so far, below x
pub record TabledTo (e : PlayerBoard) (parts reaches : List ℕ) (x : ℕ) : Type 0 where
  pub held : (j k : ℕ) → j < x → IsTrue (has (get_or parts j 0) k) ↔ HasCell e j k
  pub reached : (j k : ℕ) → j < x → IsTrue (has (get_or reaches j 0) k) ↔ Reaches e j k

abbrev pub invariant-elements : goal.invariant-elements
invariant-elements l = TabledTo l.numbering l.parts l.reaches l.x
