use Rattle.std.proofs.Common.{arith}
use Rattle.look_ahead.proofs.Ranks.{best_found}
use Rattle.look_ahead.proofs.searches.Look.best_of.Goals as goal

pub returns : goal.returns
returns c =
    best_found c.args.rows.now c.rows.best.now c.rows.top c.rows.place c.rows.invariant.one
    c.rows.invariant.rank c.rows.invariant.most (omega (arith, c.rows-test.false))
