use Rattle.hex_board.proofs.Search.{joined_test}
use Rattle.hex_board.proofs.paths.joined_is_decided.Goals as goal

pub returns : goal.returns
returns c = joined_test
