use Rattle.hex_board.proofs.Places.{near_decided}
use Rattle.hex_board.proofs.laws.near_is_decided.Goals as goal

pub returns : goal.returns
returns c = near_decided
