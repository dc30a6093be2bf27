use Rattle.htp_session.proofs.SupplyLaws.{talk_more_left}
use Rattle.htp_session.proofs.laws.more_left_is_not_used.Goals as goal

pub returns : goal.returns
returns c = talk_more_left
