use Rattle.std.proofs.Common.{◌≡◌, ap, sym, ◌∙◌, subst}
use Rattle.hex_board.specs.Positions.{Position}
use Rattle.sgf_game.specs.Lines.{nodes_lent}
use Rattle.sgf_game.specs.Playing.{AreSaidOn}
use Rattle.sgf_game.specs.Turns.{turns_of}
use Rattle.sgf_game.proofs.Refusals.{turns_on}
use Rattle.sgf_game.proofs.reading.game_of_line.Goals as goal

pub game_of_turns-requires-clause-on_board : goal.game_of_turns-requires-clause-on_board
game_of_turns-requires-clause-on_board c =
    let size : c.in-Some-start_of.start.size ≡ c.in-Some.size
    = ap (λ (p : Position). p.size) c.in-Some-start_of.ensures.1 in
    let turns : c.deref.result.now ≡ turns_of c.in-Some.size (nodes_lent c.args.line.now)
    = c.deref.ensures.value ∙ c.in-Ok.ensures in
    rw size (subst (AreSaidOn c.in-Some.size) (sym turns) (turns_on c.in-Some.size (nodes_lent c.args.line.now)))
