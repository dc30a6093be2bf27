-- Slot by slot, until none has a sum.
use Rattle.std.proofs.Common.{arith}
use Rattle.search_team.proofs.Debts.{holds-nothing}
use Rattle.search_team.proofs.holding.give_all.Goals as goal

pub give_slot-requires-clause-own : goal.give_slot-requires-clause-own
give_slot-requires-clause-own c = c.slots.invariant.own

pub give_slot-requires-clause-debts : goal.give_slot-requires-clause-debts
give_slot-requires-clause-debts c = c.slots.invariant.debts

pub returns-clause-nothing : goal.returns-clause-nothing
returns-clause-nothing c =
    holds-nothing c.args.tree.now.shape c.slots.sums c.slots.seat.owed c.slots.invariant.debts
    (λ j l. c.slots.invariant.zero j (let far = c.slots-test.false in omega (arith, l, far)))
