use Rattle.arena_rule.proofs.Owing.{owing-owes, owing-gives}
use Rattle.arena_rule.proofs.Lags.{owed-little}
use Rattle.arena_rule.proofs.OwingSeats.{owed-at}
use Rattle.arena_rule.proofs.laws.debts_are_kept.Goals as goal

pub returns-clause-owes : goal.returns-clause-owes
returns-clause-owes c s a r id d add seat can
    = owing-owes s a.words a.seats r id d seat.at seat.live add can

pub returns-clause-gives : goal.returns-clause-gives
returns-clause-gives c s a r id d i n seat can
    = owing-gives s a.words a.seats r id d seat.at seat.live i n can

pub returns-clause-words : goal.returns-clause-words
returns-clause-words c s a r i l = owed-at s a.words a.seats r i l

pub returns-clause-lag : goal.returns-clause-lag
returns-clause-lag c s a r i = owed-little s a.words a.seats r i
