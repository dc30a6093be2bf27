use Rattle.std.proofs.Common.{refl}
use Rattle.hex_cells.specs.Sets.{has}
use Rattle.play_out.proofs.fours.rows.Goals as goal

pub returns : goal.returns
unfolding has
returns c = refl
