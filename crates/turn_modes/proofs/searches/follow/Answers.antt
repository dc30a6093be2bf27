use Rattle.std.proofs.Common.{Err, ap, ◌∙◌}
use Rattle.turn_modes.proofs.Words.{no_stray}
use Rattle.turn_modes.proofs.searches.follow.Goals as goal

pub unreachable-requires : goal.unreachable-requires
unreachable-requires c =
    let stray = c.in-Err-NoSuchWalker in
    no_stray c.args.shape.now c.args.list.now stray.field-0-0 c.requires
    ((c.simulate.ensures.no_walker stray.field-0-0).0 (stray.is ∙ ap Err stray.field-0-is))
