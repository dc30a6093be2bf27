-- No cell is left in either half.
use Rattle.std.proofs.Common.{◌++◌, false}
use Rattle.walker.proofs.HalfLaws.{none-in}
use Rattle.walker.proofs.climbs.Climb.none.Goals as goal

pub returns : goal.returns
returns c = λ i. none-in c.none.result.first false c.none.result.cells c.none.result.left c.none.ensures.1 i
    ++ none-in c.none-2.result.first false c.none-2.result.cells c.none-2.result.left c.none-2.ensures.1 i
