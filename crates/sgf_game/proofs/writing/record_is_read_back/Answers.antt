use Rattle.std.proofs.Common.{subst}
use Rattle.hex_board.specs.Positions.{Position, IsPosition}
use Rattle.sgf_game.proofs.StepsBack.{game_again}
use Rattle.sgf_game.proofs.writing.record_is_read_back.Goals as goal

pub returns : goal.returns
returns c =
    let start : IsPosition c.args.game.now.start.size c.args.game.now.start.black c.args.game.now.start.white
    = subst (λ (p : Position). IsPosition p.size p.black p.white) c.start-start.ensures c.keeps.ensures.position in
    game_again c.args.game.now start.least start.most start.black_on start.white_on start.apart
    c.steps_are_legal.ensures.legal
