-- There is no level exactly if the depth is 0.
use Rattle.std.proofs.Common.{sym, ap, ◌∙◌, length, arith}
use Rattle.std.proofs.lemmas.Bool.{eqb-true, eq-eqb}
use Rattle.walker.proofs.Levels.{levels-at, levels-long}
use Rattle.walker.proofs.ways.Way.is_none.Goals as goal

pub returns : goal.returns
returns c = (
  λ t. sym c.self.view_is ∙ levels-at c.self.inside.levels c.self.inside.depth
      (eqb-true c.self.inside.depth 0 t),
  λ e. eq-eqb c.self.inside.depth 0
      (omega (arith, levels-long c.self.inside.levels c.self.inside.depth (omega (arith, c.self.invariant)), ap length (c.self.view_is ∙ e))),
)
