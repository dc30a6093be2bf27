-- A join is an event of the arena, and leaves a view in order.
use Rattle.std.proofs.Common.{arith}
use Rattle.tree_rule.proofs.Moves.{merges, sits-joined}
use Rattle.tree_rule.proofs.seats.merge.Goals as goal

pub join_seat-requires : goal.join_seat-requires
join_seat-requires g c =
    let sits = c.requires.own.0 in
    let others = c.requires.own.1 in (
      sits.table,
      others.table,
      others.slots,
      omega (arith, sits.words),
      merges c.args.shared.now.key c.args.seat.now.id c.args.seat.now.me.0 c.args.other.id
          c.args.other.me.0 _ c.requires.picked sits.view others.view c.requires.can
          c.requires.owed.0 c.requires.owed.1,
    )

pub returns-clause-own : goal.returns-clause-own
returns-clause-own g c =
    sits-joined c.args.shared.now.table_id c.args.seat.now c.args.other c.join_seat.new.seat
    c.requires.own.0 c.requires.own.1 c.requires.shape c.requires.can c.join_seat.ensures.0
    c.join_seat.ensures.2
