use Rattle.std.proofs.Common.{refl}
use Rattle.uct_table.specs.ReciprocalRoots.{are_above_roots}
use Rattle.uct_table.proofs.reciprocal_roots.roots.Goals as goal

pub returns : goal.returns
unfolding are_above_roots
returns c = refl
