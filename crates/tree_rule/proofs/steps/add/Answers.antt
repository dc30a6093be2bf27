-- An add is a step.
use Rattle.std.proofs.Common.{arith}
use Rattle.tree_words.specs.declared.steps.Op.TheVariants.{Add}
use Rattle.tree_rule.proofs.Moves.{add-allowed, won-added}
use Rattle.tree_rule.proofs.Within.{word-within}
use Rattle.tree_rule.proofs.steps.add.Goals as goal

pub fetch_add-requires : goal.fetch_add-requires
fetch_add-requires c =
    let sits = c.requires.own in
    let v = c.args.seat.now.me.0.view in (
      sits.table,
      omega (arith, word-within v sits.view (Add c.args.i c.args.won) c.requires.fits, sits.words),
      add-allowed c.args.shared.now.key _ c.args.seat.now.id c.args.seat.now.me c.args.i _
          c.args.won (won-added _ c.args.won c.from.ensures) sits.view c.requires.fits,
    )
