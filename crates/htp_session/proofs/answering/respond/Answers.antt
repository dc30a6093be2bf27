-- What was said at once is held; before anything else what was held is given.
use Rattle.std.proofs.lemmas.Result.{err_from_is_err_and}
use Rattle.hex_devices.proofs.CountLaws.{counts_memory}
use Rattle.htp_session.specs.Talk.{talk_start}
use Rattle.htp_session.proofs.Speaking.{held_whole, written_line, ran_out, ran_out_unwritten}
use Rattle.htp_session.proofs.answering.respond.Goals as goal

pub returns-in-Whole-clause-writes : goal.returns-in-Whole-clause-writes
returns-in-Whole-clause-writes g c =
    held_whole c.args.devices.now c.args.engine.now c.say.new.engine _ _ _ c.in-Whole.quit
    (rw c.in-Whole.is at c.in-Ok.ensures.speaks)

pub returns-in-Open-clause-writes : goal.returns-in-Open-clause-writes
returns-in-Open-clause-writes g c =
    written_line c.args.devices.now c.respond_to.new.devices c.args.engine.now c.say.new.engine _ _ _ _ _ c.in-Open.question
    c.respond_to.result (rw c.in-Open.is at c.in-Ok.ensures.speaks) c.respond_to.ensures.writes

pub returns-in_ok-give_held-in-Err-clause-writes : goal.returns-in_ok-give_held-in-Err-clause-writes
returns-in_ok-give_held-in-Err-clause-writes g c =
    ran_out c.args.devices.now c.give_held.new.devices c.args.engine.now c.say.new.engine
    (talk_start c.args.engine.now) _ _ c.args.out.now.items c.in-Err.ensures.err
    c.in_ok-give_held-in-Err.ensures.gives c.in_ok-give_held-in-Err.ensures.shelf_and_archive

pub returns-in_ok-give_held-in-Err-clause-counts : goal.returns-in_ok-give_held-in-Err-clause-counts
returns-in_ok-give_held-in-Err-clause-counts g c
    = counts_memory c.args.devices.now c.give_held.new.devices c.in_ok-give_held-in-Err.ensures.counts

pub returns-in_err-give_held-in-Err-clause-writes : goal.returns-in_err-give_held-in-Err-clause-writes
returns-in_err-give_held-in-Err-clause-writes g c =
    let p = err_from_is_err_and c.from_residual.result c.from_residual.ensures.1 in
    rw (p.1, p.2)
    (ran_out_unwritten c.args.devices.now c.give_held.new.devices c.args.engine.now c.say.new.engine
    (talk_start c.args.engine.now) _ _ c.args.out.now.items c.in-Err.ensures.err
    c.in_err-give_held-in-Err.ensures.gives c.in_err-give_held-in-Err.ensures.shelf_and_archive)
