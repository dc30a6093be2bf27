-- No level.
use Rattle.walker.proofs.Levels.{levels-none}
use Rattle.walker.proofs.ways.Way.clear.Goals as goal

pub returns : goal.returns
returns c = levels-none _
