use Rattle.std.proofs.Common.{refl}
use Rattle.hex_cells.specs.Sets.{are_powers}
use Rattle.hex_cells.proofs.singles.singles.Goals as goal

pub returns : goal.returns
unfolding are_powers
returns c = refl
