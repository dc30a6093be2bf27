use Rattle.hex_cells.proofs.HalfBits.{Among}
use Rattle.hex_cells.proofs.halves.place_in.Given as goal

abbrev pub invariant-loop-width : goal.invariant-loop-width
invariant-loop-width l = Among l.half l.k l.at l.width

abbrev pub decreases-loop-width : goal.decreases-loop-width
decreases-loop-width l = l.width
