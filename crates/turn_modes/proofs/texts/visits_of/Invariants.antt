use Rattle.std.proofs.Common.{◌≡◌, drop}
use Rattle.turn_modes.specs.Rows.{visits_of}
use Rattle.turn_modes.proofs.texts.visits_of.Given as goal

abbrev pub invariant-loop-row : goal.invariant-loop-row
invariant-loop-row l = visits_of (drop l.row-index l.rows) l.cell ≡ visits_of l.rows l.cell
