-- A write is a step.
use Rattle.std.proofs.Common.{refl, arith}
use Rattle.tree_words.specs.declared.steps.Op.TheVariants.{Write}
use Rattle.tree_rule.proofs.Moves.{acts}
use Rattle.tree_rule.proofs.Within.{word-within}
use Rattle.tree_rule.proofs.steps.write.Goals as goal

pub store-requires : goal.store-requires
store-requires c =
    let sits = c.requires.own in
    let v = c.args.seat.now.me.0.view in (
      sits.table,
      omega (arith, word-within v sits.view (Write c.args.i c.args.value) c.requires.fits, sits.words),
      acts c.args.shared.now.key _ c.args.seat.now.id c.args.seat.now.me
          (Write c.args.i c.args.value) sits.view c.requires.fits (λ _. c.args.value)
          (λ x low may. refl),
    )
