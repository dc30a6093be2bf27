-- A claim is a step.
use Rattle.std.proofs.Common.{◌+◌, ◌%◌, ◌^◌, arith}
use Rattle.tree_words.specs.declared.steps.Op.TheVariants.{Claim}
use Rattle.tree_rule.proofs.Moves.{acts, claim-same}
use Rattle.tree_rule.proofs.Within.{word-within}
use Rattle.tree_rule.proofs.steps.claim.Goals as goal

pub fetch_add-requires : goal.fetch_add-requires
fetch_add-requires c =
    let sits = c.requires.own in
    let v = c.args.seat.now.me.0.view in
    let size = c.args.size in (
      sits.table,
      omega (arith, word-within v sits.view (Claim size) c.requires.fits, sits.words),
      acts c.args.shared.now.key _ c.args.seat.now.id c.args.seat.now.me
          (Claim size) sits.view c.requires.fits (λ n. (n + size) % 2 ^ 64)
          (λ x low may. claim-same v sits.view size x (omega arith) may),
    )
