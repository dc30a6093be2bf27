-- What was held was given, and then the question answered.
use Rattle.std.proofs.lemmas.Result.{err_from_is_err_and}
use Rattle.hex_devices.proofs.CountLaws.{counts_then}
use Rattle.htp_session.proofs.Speaking.{replied_after, unreplied_after}
use Rattle.htp_session.proofs.asking.respond_to.Goals as goal

pub returns-in_err-give_held-clause-writes : goal.returns-in_err-give_held-clause-writes
returns-in_err-give_held-clause-writes g c =
    let p = err_from_is_err_and c.from_residual.result c.from_residual.ensures.1 in
    rw (p.1, p.2) (c.in_err-give_held.ensures.gives, c.in_err-give_held.ensures.shelf_and_archive)

pub returns-in_err-give_held-clause-counts : goal.returns-in_err-give_held-clause-counts
returns-in_err-give_held-clause-counts g c =
    let p = err_from_is_err_and c.from_residual.result c.from_residual.ensures.1 in
    rw (p.1, p.2) c.in_err-give_held.ensures.counts

pub returns-in-Ok-clause-writes : goal.returns-in-Ok-clause-writes
returns-in-Ok-clause-writes g c =
    replied_after c.args.devices.now c.give_held.new.devices c.reply.new.devices _ _ c.args.question.now _ _ _ c.in-Ok.quit
    c.in_ok-give_held.ensures.gives c.in_ok-give_held.ensures.empty c.in_ok-give_held.ensures.shelf_and_archive c.in-Ok.ensures.link c.in-Ok.ensures.replies

pub returns-in-Ok-clause-counts : goal.returns-in-Ok-clause-counts
returns-in-Ok-clause-counts g c
    = counts_then c.args.devices.now c.give_held.new.devices _ _ c.in_ok-give_held.ensures.counts c.in-Ok.ensures.counts

pub returns-in-Err-clause-writes : goal.returns-in-Err-clause-writes
returns-in-Err-clause-writes g c =
    rw c.output_error.ensures
    (unreplied_after c.args.devices.now c.give_held.new.devices c.reply.new.devices c.args.engine.now c.reply.new.engine c.args.question.now
    c.args.out.now.items c.give_held.new.held.items c.reply.new.out.items c.in-Err.error
    c.in_ok-give_held.ensures.gives c.in_ok-give_held.ensures.shelf_and_archive c.in-Err.ensures.link c.in-Err.ensures.replies)

pub returns-in-Err-clause-counts : goal.returns-in-Err-clause-counts
returns-in-Err-clause-counts g c =
    rw c.output_error.ensures
    (counts_then c.args.devices.now c.give_held.new.devices _ _ c.in_ok-give_held.ensures.counts c.in-Err.ensures.counts)
