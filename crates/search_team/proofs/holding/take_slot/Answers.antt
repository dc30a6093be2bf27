-- An empty slot gets another word.
use Rattle.std.proofs.Common.{refl}
use Rattle.search_team.proofs.Debts.{holds-taken}
use Rattle.search_team.proofs.holding.take_slot.Goals as goal

pub returns-clause-debts : goal.returns-clause-debts
returns-clause-debts c = holds-taken c.args.tree.now.shape c.give_slot.new.sums _ c.give_slot.new.seat.owed
    c.slot-i.result c.args.word c.slot-i.ensures.inside c.give_slot.ensures.debts
    c.give_slot.ensures.none refl refl refl
