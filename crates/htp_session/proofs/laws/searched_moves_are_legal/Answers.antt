use Rattle.hex_engine.proofs.Legal.{next_is_legal}
use Rattle.htp_session.proofs.laws.searched_moves_are_legal.Goals as goal

pub returns : goal.returns
returns c = next_is_legal
