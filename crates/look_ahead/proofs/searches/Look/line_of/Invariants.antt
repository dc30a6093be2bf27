use Rattle.look_ahead.proofs.FreeCells.{IsLineSoFar}
use Rattle.look_ahead.proofs.searches.Look.line_of.Given as goal

abbrev pub invariant-moves : goal.invariant-moves
invariant-moves l = IsLineSoFar l.fn.board l.fn.cell l.line.items l.free
