-- A publish is a step.
use Rattle.std.proofs.Common.{arith}
use Rattle.std.specs.Prelude.{◌==◌}
use prog.Atomic.{either}
use Rattle.tree_words.specs.declared.steps.Op.TheVariants.{Publish}
use Rattle.tree_rule.proofs.Moves.{acts, publish-same}
use Rattle.tree_rule.proofs.Within.{word-within}
use Rattle.tree_rule.proofs.steps.publish.Goals as goal

pub compare_exchange-requires : goal.compare_exchange-requires
compare_exchange-requires c =
    let sits = c.requires.own in
    let v = c.args.seat.now.me.0.view in
    let link = c.args.link in
    let block = c.args.block in (
      sits.table,
      omega (arith, word-within v sits.view (Publish link block) c.requires.fits, sits.words),
      acts c.args.shared.now.key _ c.args.seat.now.id c.args.seat.now.me
          (Publish link block) sits.view c.requires.fits (λ n. either (n == 0) block n)
          (λ x low may. publish-same link block x),
    )
