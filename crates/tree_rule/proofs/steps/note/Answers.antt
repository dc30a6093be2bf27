-- A note is a step.
use Rattle.std.proofs.Common.{arith}
use Rattle.tree_words.specs.declared.steps.Op.TheVariants.{Note}
use Rattle.tree_rule.proofs.Moves.{note-allowed}
use Rattle.tree_rule.proofs.Within.{word-within}
use Rattle.tree_rule.proofs.steps.note.Goals as goal

pub store-requires : goal.store-requires
store-requires c =
    let sits = c.requires.own in
    let v = c.args.seat.now.me.0.view in (
      sits.table,
      omega (arith, word-within v sits.view (Note c.args.k c.args.value) c.requires.fits, sits.words),
      note-allowed c.args.shared.now.key _ c.args.seat.now.id c.args.seat.now.me c.args.k c.args.value sits.view c.requires.fits,
    )
