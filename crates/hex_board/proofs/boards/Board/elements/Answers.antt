use Rattle.std.proofs.Common.{arith}
use Rattle.hex_board.specs.Elements.{HasCell}
use Rattle.hex_board.specs.ElementTables.{Reaches}
use Rattle.hex_board.proofs.Tabled.{set_more}
use Rattle.hex_board.proofs.boards.Board.elements.Goals as goal

pub elements-init : goal.elements-init
elements-init c
    = record { held = λ j k l. absurd (omega arith); reached = λ j k l. absurd (omega arith) }

pub elements-preserved : goal.elements-preserved
elements-preserved c = record {
  held = set_more (HasCell c.of_board-numbering.result) c.elements.parts c.elements.x c.cells.result
      (omega arith) c.elements.invariant.held c.cells.ensures;
  reached = set_more
      (Reaches c.of_board-numbering.result) c.elements.reaches c.elements.x c.beside.result
      (omega arith) c.elements.invariant.reached c.beside.ensures;
}

pub invariant_of-result : goal.invariant_of-result
invariant_of-result c = record {
  few = omega arith;
  held = λ x k l. c.elements.invariant.held x k (omega arith);
  reached = λ x k l. c.elements.invariant.reached x k (omega arith);
}
