-- A split is an event of the arena, and leaves two views in order.
use Rattle.std.proofs.Common.{arith}
use Rattle.tree_rule.proofs.Moves.{cuts, sits-kept, sits-given}
use Rattle.tree_rule.proofs.seats.cut.Goals as goal

pub split_seat-requires : goal.split_seat-requires
split_seat-requires g c =
    let sits = c.requires.own in
    let v = c.args.seat.now.me.0 in (
      sits.table,
      omega (arith, sits.words),
      cuts c.args.shared.now.key c.args.seat.now.id
          c.args.part _ v c.requires.picked sits.view c.requires.can c.requires.owed,
    )

pub returns-clause-own : goal.returns-clause-own
returns-clause-own g c = (
  sits-kept c.args.shared.now.table_id c.args.seat.now c.split_seat.new.seat c.args.part _
      c.requires.own c.requires.can c.requires.picked c.split_seat.ensures.0 c.split_seat.ensures.2,
  sits-given c.args.shared.now.table_id c.args.seat.now c.split_seat.result c.args.part _
      c.requires.own c.requires.can c.requires.picked c.split_seat.ensures.3 c.split_seat.ensures.4,
)
