-- All that was held was given, or nothing.
use Rattle.std.proofs.Common.{arith}
use Rattle.std.proofs.lemmas.Result.{on_ok_weaker}
use Rattle.htp_session.proofs.Passing.{passes_all, passes_part}
use Rattle.htp_session.proofs.holding.relieve.Goals as goal

pub returns-clause-passes : goal.returns-clause-passes
returns-clause-passes g c =
    passes_all c.args.devices.now c.give_held.new.devices c.args.held.now.items c.give_held.new.held.items c.give_held.result
    c.give_held.ensures.gives c.give_held.ensures.empty

pub returns-clause-part : goal.returns-clause-part
returns-clause-part g c =
    passes_part c.args.devices.now c.give_held.new.devices c.args.held.now.items c.give_held.result c.give_held.ensures.gives

pub returns-clause-few : goal.returns-clause-few
returns-clause-few g c =
    on_ok_weaker c.give_held.result (λ none. rw none (omega arith)) c.give_held.ensures.empty
