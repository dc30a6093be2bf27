use Rattle.std.proofs.Common.{◌≡◌, ap, sym, ◌∙◌, subst}
use Rattle.sgf_game.specs.Lines.{nodes_lent, main_line, line_of}
use Rattle.sgf_game.specs.Playing.{EndsLast}
use Rattle.sgf_game.specs.Turns.{turns_of}
use Rattle.sgf_game.proofs.Refusals.{ends_last}
use Rattle.sgf_game.proofs.reading.to_game.Goals as goal

pub game_of_line-requires : goal.game_of_line-requires
game_of_line-requires c =
    let line : nodes_lent c.deref.result.now ≡ line_of c.args.collection.now.trees
    = ap nodes_lent c.deref.ensures.value ∙ c.in-Ok.ensures in
    λ n. subst (λ nodes. EndsLast (turns_of n nodes)) (sym line)
    (ends_last n (main_line c.args.collection.now.trees))
