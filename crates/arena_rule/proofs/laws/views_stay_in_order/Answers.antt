use Rattle.arena_rule.proofs.ViewStays.{view-stays}
use Rattle.arena_rule.proofs.ViewSeats.{kept-stays, given-stays, join-stays}
use Rattle.arena_rule.proofs.laws.views_stay_in_order.Goals as goal

pub returns-clause-step : goal.returns-clause-step
returns-clause-step c v iv op x fits a = view-stays v iv op x fits a

pub returns-clause-split : goal.returns-clause-split
returns-clause-split c v iv part can = (kept-stays v iv part can, given-stays v iv part can)

pub returns-clause-join : goal.returns-clause-join
returns-clause-join c v iv w iw same can = join-stays v w iv iw same can
