-- The position has room, and nobody is joined.
use Rattle.std.proofs.Common.{rules, ◌≡◌, ◌∙◌, ap, true}
use Rattle.std.specs.Prelude.{◌&&◌, is_some, not}
use Rattle.hex_plan.specs.Openings.{has_room, may_move}
use Rattle.hex_plan.proofs.Rooms.{room_of}
use Rattle.turn_modes.proofs.searches.benchmarked_turn.Goals as goal

pub decided_turn-requires-clause-may : goal.decided_turn-requires-clause-may
decided_turn-requires-clause-may g c =
    let board = c.args.position.now.board in
    let may : may_move board ≡ true = ap (λ o. not (is_some o) && has_room board) c.requires.nobody
    ∙ room_of board c.requires.room.0 c.requires.room.1 in
    search rules
