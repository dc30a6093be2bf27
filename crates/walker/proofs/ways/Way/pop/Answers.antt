-- The last level of the array is the first of the list.
use Rattle.std.proofs.Common.{sym, ◌∙◌, arith}
use Rattle.walker.proofs.Levels.{levels-at, levels-last}
use Rattle.walker.proofs.ways.Way.pop.Goals as goal

pub returns-then-self-eq0 : goal.returns-then-self-eq0
returns-then-self-eq0 c = let e = sym c.self.view_is
    ∙ levels-at c.self.inside.levels c.self.inside.depth c.if-self-eq0.true in (e, e)

pub returns : goal.returns
returns c = sym c.self.view_is
    ∙ levels-last c.self.inside.levels c.self.inside.depth c.index-self-self.result
    (omega (arith, c.if-self-eq0.false)) (omega (arith, c.self.invariant))
