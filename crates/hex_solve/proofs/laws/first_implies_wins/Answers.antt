use Rattle.hex_solve.proofs.FirstWins.{first_wins}
use Rattle.hex_solve.proofs.laws.first_implies_wins.Goals as goal

pub returns : goal.returns
returns c = first_wins
