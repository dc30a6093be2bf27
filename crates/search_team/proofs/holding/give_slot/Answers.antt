-- What a slot has may be given, and is nothing afterwards.
use Rattle.std.proofs.Common.{refl}
use Rattle.search_team.proofs.Debts.{can-give, holds-given}
use Rattle.tree_rule.specs.Seats.{debtor_of}
use Rattle.search_team.proofs.holding.give_slot.Goals as goal

pub give-requires-clause-can : goal.give-requires-clause-can
give-requires-clause-can c = can-give c.args.tree.now.shape c.args.sums.now (debtor_of c.args.seat.now) c.args.i _ c.requires.debts refl c.if-sum-ne0.true

pub returns-then-sum-ne0-clause-debts : goal.returns-then-sum-ne0-clause-debts
returns-then-sum-ne0-clause-debts c =
    holds-given c.args.tree.now.shape c.args.sums.now _ c.args.seat.now.owed c.give.new.self.owed c.args.i
    c.requires.inside c.requires.debts c.if-sum-ne0.true refl refl refl c.give.ensures.owed
