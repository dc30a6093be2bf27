-- A look is a step.
use Rattle.std.proofs.Common.{refl, arith}
use Rattle.tree_words.specs.declared.steps.Op.TheVariants.{Look}
use Rattle.tree_rule.proofs.Moves.{acts}
use Rattle.tree_rule.proofs.Within.{word-within}
use Rattle.tree_rule.proofs.steps.look.Goals as goal

pub load-requires : goal.load-requires
load-requires c =
    let sits = c.requires.own in
    let v = c.args.seat.now.me.0.view in (
      sits.table,
      omega (arith, word-within v sits.view (Look c.args.i) c.requires.fits, sits.words),
      acts c.args.shared.now.key _ c.args.seat.now.id c.args.seat.now.me
          (Look c.args.i) sits.view c.requires.fits (λ n. n) (λ x low may. refl),
    )
