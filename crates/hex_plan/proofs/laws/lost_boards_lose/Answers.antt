use Rattle.hex_plan.proofs.CertifiedMoves.{lost_loses}
use Rattle.hex_plan.proofs.laws.lost_boards_lose.Goals as goal

pub returns : goal.returns
returns c = lost_loses
