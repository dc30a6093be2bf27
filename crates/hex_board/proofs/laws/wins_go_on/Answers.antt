use Rattle.hex_board.proofs.WinLaws.{joined_wins, own_wins, other_wins, own_means, other_means}
use Rattle.hex_board.proofs.laws.wins_go_on.Goals as goal

pub returns-clause-joined : goal.returns-clause-joined
returns-clause-joined c = joined_wins

pub returns-clause-own : goal.returns-clause-own
returns-clause-own c = λ player p w. own_wins player p w.0 w.1 w.2

pub returns-clause-other : goal.returns-clause-other
returns-clause-other c = λ player p w. other_wins player p w.0.0 w.0.1 w.1

pub returns-clause-own_means : goal.returns-clause-own_means
returns-clause-own_means c = own_means

pub returns-clause-other_means : goal.returns-clause-other_means
returns-clause-other_means c = other_means
