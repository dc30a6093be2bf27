use Rattle.std.proofs.Common.{sym, ◌∙◌}
use Rattle.hex_plan.proofs.Rooms.{empty_in}
use Rattle.hex_plan.proofs.openings.may_move.Goals as goal

pub returns-then-is_none-clause-room : goal.returns-then-is_none-clause-room
returns-then-is_none-clause-room c t = empty_in c.args.board.now (sym c.has_room.ensures ∙ t)
