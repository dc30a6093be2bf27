use Rattle.win_cert.proofs.ClaimedMoves.{move_wins}
use Rattle.win_cert.proofs.laws.claimed_moves_win.Goals as goal

pub returns : goal.returns
returns c = move_wins
