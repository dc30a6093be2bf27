use Rattle.std.proofs.Common.{refl}
use Rattle.arena_rule.specs.Owing.{debtless}
use Rattle.arena_rule.proofs.OwingSeats.{owing-splits, owing-joins, closes-last}
use Rattle.arena_rule.proofs.laws.seats_without_debts.Goals as goal

pub returns-clause-split : goal.returns-clause-split
returns-clause-split c s a r id part v seat can
    = owing-splits s a.words a.seats r id (debtless v) seat.at refl seat.live part can

pub returns-clause-join : goal.returns-clause-join
returns-clause-join c s a r id other v w seat others apart can
    = owing-joins s a.words a.seats r id (debtless v) seat.at refl seat.live other (debtless w) others.at apart others.live refl can

pub returns-clause-closed : goal.returns-clause-closed
returns-clause-closed c s a r id v last seat
    = closes-last s a.words a.seats r id (debtless v) seat.at refl last
