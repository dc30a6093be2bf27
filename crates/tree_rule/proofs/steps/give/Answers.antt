-- To give is a step.
use Rattle.std.proofs.Common.{arith}
use Rattle.tree_rule.proofs.Moves.{gives-allowed}
use Rattle.tree_rule.proofs.Within.{give-within}
use Rattle.tree_rule.proofs.steps.give.Goals as goal

pub fetch_add-requires : goal.fetch_add-requires
fetch_add-requires c =
    let sits = c.requires.own in
    let m = c.args.seat.now.me in (
      sits.table,
      omega (arith, give-within m.0 c.args.word c.args.amount sits.view sits.owed c.requires.can, sits.words),
      gives-allowed c.args.shared.now.key _ c.args.seat.now.id m sits.view c.args.word c.args.amount c.requires.can,
    )
