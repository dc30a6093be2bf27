use Rattle.std.proofs.Common.{ap}
use Rattle.htp_line.specs.Lines.{whole, rest}
use Rattle.htp_line.specs.Splitting.{so_far}
use Rattle.htp_session.proofs.session.Session.make.Goals as goal

pub returns-clause-in_hand : goal.returns-clause-in_hand
unfolding whole rest
returns-clause-in_hand c = ap so_far c.in-Ok.ensures
