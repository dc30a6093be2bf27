use Rattle.hex_solve.proofs.PositionsBound.{bound_of_four, positions_most}
use Rattle.hex_solve.proofs.laws.positions_are_bounded.Goals as goal

pub returns : goal.returns
returns c = record { bounded = positions_most; of_four = bound_of_four }
