use Rattle.hex_plan.proofs.CertifiedMoves.{is_certified}
use Rattle.hex_plan.proofs.laws.certified_moves_win.Goals as goal

pub returns : goal.returns
returns c = is_certified
