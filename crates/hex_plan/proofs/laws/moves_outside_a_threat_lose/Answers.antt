use Rattle.hex_plan.proofs.CertifiedMoves.{outside_loses}
use Rattle.hex_plan.proofs.laws.moves_outside_a_threat_lose.Goals as goal

pub returns : goal.returns
returns c = outside_loses
