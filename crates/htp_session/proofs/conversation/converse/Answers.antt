-- What stands at each end, and after one piece more.
use Rattle.std.proofs.Common.{◌≡◌, ◌≤◌, ◌+◌, Ok, Err, [], ◌++◌, length, take, refl, arith, ◌∙◌}
use Rattle.std.proofs.lemmas.Result.{err_from_is_err_and}
use Rattle.htp_session.proofs.Pieces.{length-front}
use Rattle.htp_session.proofs.Conversations.{before_first_byte}
use Rattle.htp_session.proofs.Outcomes.{came_unbegun, came_unread, came_overlong}
use Rattle.htp_session.proofs.ReadPieces.{reads_piece, took_piece, came_by_finish}
use Rattle.htp_session.proofs.conversation.converse.Goals as goal

pub pieces-init : goal.pieces-init
pieces-init g c = record {
  in_limit = omega arith;
  between_lines = ([], refl, before_first_byte _ _ _ c.in-Ok.ensures.engine c.in-Ok.ensures.in_hand);
}

pub returns-in_default-clause-converses : goal.returns-in_default-clause-converses
returns-in_default-clause-converses g c = (came_unbegun (record {
  options = c.args.options.now;
  size = c.args.size;
  limit = c.args.limit;
  began = c.args.devices.now;
})).converses

pub returns-in_err-count : goal.returns-in_err-count
returns-in_err-count g c =
    let p = err_from_is_err_and c.from_residual.result c.from_residual.ensures.1 in
    let r = c.in_err-count.ensures in
    let came = came_unread c.pieces.invariant.between_lines.2 r.shelf_and_archive r.reads r.counts in
    rw (p.1, p.2) (record { converses = came.converses; counts = came.counts })

pub returns-then-count-eq0 : goal.returns-then-count-eq0
returns-then-count-eq0 g c =
    let r = c.in_ok-count.ensures in
    let came = came_by_finish c.finish.new.devices c.pieces.session c.pieces.total
    (Ok c.in_ok-finish.field-0) c.pieces.invariant.between_lines
    (reads_piece c.read.new.buffer c.in_ok-count.count r.shelf_and_archive r.reads r.counts)
    c.if-count-eq0.true c.in_ok-finish.ensures.finishes in
    record { converses = came.converses; counts = came.counts }

pub returns-in_err-finish : goal.returns-in_err-finish
returns-in_err-finish g c =
    let p = err_from_is_err_and c.from_residual-in_err-finish.result c.from_residual-in_err-finish.ensures.1 in
    let r = c.in_ok-count.ensures in
    let came = came_by_finish c.finish.new.devices c.pieces.session c.pieces.total
    (Err c.in_err-finish.field-0.0) c.pieces.invariant.between_lines
    (reads_piece c.read.new.buffer c.in_ok-count.count r.shelf_and_archive r.reads r.counts)
    c.if-count-eq0.true c.in_err-finish.ensures.finishes in
    rw (p.1, p.2) (record { converses = came.converses; counts = came.counts })

pub returns-then-total-limit : goal.returns-then-total-limit
returns-then-total-limit g c =
    let n = c.in_ok-count.count in
    let r = c.in_ok-count.ensures in
    let fits : n ≤ length c.read.new.buffer = omega (arith, r.bound) in
    let one : n ≡ 1 = omega (arith, r.bound) in
    let at = c.pieces.invariant.between_lines in
    let came = came_overlong c.read.new.buffer n at.2 r.shelf_and_archive r.reads r.counts
    (at.1 ∙ c.if-total-limit.true) (length-front c.read.new.buffer n fits ∙ one) in
    record { converses = came.converses; counts = came.counts }

pub returns-in_err-feed : goal.returns-in_err-feed
returns-in_err-feed g c =
    let n = c.in_ok-count.count in
    let r = c.in_ok-count.ensures in
    let fits : n ≤ length c.read.new.buffer = omega (arith, r.bound) in
    let few : c.pieces.total + n ≤ c.args.limit = omega (arith, r.bound) in
    let t = took_piece c.pieces.session c.pieces.total c.pieces.invariant.between_lines fits
    (reads_piece c.read.new.buffer n r.shelf_and_archive r.reads r.counts) few in
    let p = err_from_is_err_and c.from_residual-in_err-feed.result c.from_residual-in_err-feed.ensures.1 in
    let came = c.in_err-feed.ensures.feeds _ t.seen t.between_lines in
    rw (p.1, p.2) (record { converses = came.converses; counts = came.counts })

pub returns-then-branch : goal.returns-then-branch
returns-then-branch g c =
    let n = c.in_ok-count.count in
    let r = c.in_ok-count.ensures in
    let fits : n ≤ length c.read.new.buffer = omega (arith, r.bound) in
    let few : c.pieces.total + n ≤ c.args.limit = omega (arith, r.bound) in
    let t = took_piece c.pieces.session c.pieces.total c.pieces.invariant.between_lines fits
    (reads_piece c.read.new.buffer n r.shelf_and_archive r.reads r.counts) few in
    let came = (rw c.if-branch.true at c.in_ok-feed.ensures.feeds) _ t.seen t.between_lines in
    record { converses = came.converses; counts = came.counts }

pub pieces-preserved : goal.pieces-preserved
pieces-preserved g c =
    let n = c.in_ok-count.count in
    let r = c.in_ok-count.ensures in
    let fits : n ≤ length c.read.new.buffer = omega (arith, r.bound) in
    let few : c.pieces.total + n ≤ c.args.limit = omega (arith, r.bound) in
    let t = took_piece c.pieces.session c.pieces.total c.pieces.invariant.between_lines fits
    (reads_piece c.read.new.buffer n r.shelf_and_archive r.reads r.counts) few in
    record {
      in_limit = few;
      between_lines = (
        t.seen ++ take n c.read.new.buffer,
        t.many,
        (rw c.if-branch.false at c.in_ok-feed.ensures.feeds) _ t.seen t.between_lines,
      );
    }
