use Rattle.hex_plan.proofs.Rooms.{no_room}
use Rattle.hex_plan.proofs.openings.has_room.Goals as goal

pub returns : goal.returns
returns c = no_room c.args.board.now c.empties.result c.is_empty.result c.empties.ensures c.is_empty.ensures
