use Rattle.std.proofs.Common.{ap, ◌∙◌}
use Rattle.hex_game.specs.Kept.{stones_on}
use Rattle.hex_game.proofs.Room.{room_for_stone, empty_cell, one_placed}
use Rattle.hex_game.proofs.rule.with_stone.Goals as goal

pub returns-clause-room : goal.returns-clause-room
returns-clause-room c =
    let now = c.args.now.now in
    let free = empty_cell now c.args.cell c.keeps.ensures.position.most c.requires in
    room_for_stone now.black now.white c.args.cell c.keeps.ensures.position.apart free.1 free.2 free.0

pub returns-clause-more : goal.returns-clause-more
returns-clause-more c =
    let now = c.args.now.now in
    let free = empty_cell now c.args.cell c.keeps.ensures.position.most c.requires in
    ap stones_on c.place.ensures ∙ one_placed now c.args.colour c.args.cell free.0 free.1 free.2
