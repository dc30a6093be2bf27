-- A draw is a step.
use Rattle.std.proofs.Common.{◌+◌, ◌%◌, ◌^◌, arith}
use Rattle.tree_words.specs.declared.steps.Op.TheVariants.{Draw}
use Rattle.tree_rule.proofs.Moves.{acts, draw-same}
use Rattle.tree_rule.proofs.Within.{word-within}
use Rattle.tree_rule.proofs.steps.draw.Goals as goal

pub fetch_add-requires : goal.fetch_add-requires
fetch_add-requires c =
    let sits = c.requires.own in
    let v = c.args.seat.now.me.0.view in (
      sits.table,
      omega (arith, word-within v sits.view Draw c.requires.fits, sits.words),
      acts c.args.shared.now.key _ c.args.seat.now.id c.args.seat.now.me Draw sits.view
          c.requires.fits (λ n. (n + 1) % 2 ^ 64) (λ x low may. draw-same v sits.view x may),
    )
