-- The best cell is empty.
use Rattle.hex_plan.proofs.Decides.{best_is_empty}
use Rattle.hex_plan.proofs.turns.decided.Goals as goal

pub returns-clause-empty : goal.returns-clause-empty
returns-clause-empty c =
    let tree = c.args.closed.now in
    best_is_empty tree.shape tree.words c.best.result c.keeps.ensures.setting c.keeps.ensures.closed c.best.ensures
