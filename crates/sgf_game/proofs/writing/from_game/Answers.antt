use Rattle.std.proofs.Common.{sym, subst}
use Rattle.sgf_tree.specs.Printing.{HasText}
use Rattle.sgf_game.proofs.HasText.{record_has_text}
use Rattle.sgf_game.proofs.writing.from_game.Goals as goal

pub returns-in-Ok-clause-text : goal.returns-in-Ok-clause-text
returns-in-Ok-clause-text c = subst HasText (sym c.in-Ok.ensures) (record_has_text c.args.game.now)
