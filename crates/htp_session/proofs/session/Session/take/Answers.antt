-- What stands after one line more.
use Rattle.std.proofs.Common.{◌≡◌, ◌++◌, take, arith, append-nil}
use Rattle.std.proofs.lemmas.Result.{err_from_is_err_and}
use Rattle.std.proofs.lemmas.Grind.{common_steps}
use Rattle.htp_session.proofs.Pieces.{next_seen, rest_taken}
use Rattle.htp_session.proofs.Outcomes.{came_unwritten}
use Rattle.htp_session.proofs.Feeding.{between_lines_passing}
use Rattle.htp_session.proofs.session.Session.take.Goals as goal

pub lines-init : goal.lines-init
lines-init g c = record {
  in_piece = omega arith;
  between_lines = λ k seen h. rw (c.clear.ensures.items, append-nil seen) h;
}

pub returns-in_err-relieve : goal.returns-in_err-relieve
returns-in_err-relieve g c =
    let p = err_from_is_err_and c.from_residual.result c.from_residual.ensures.1 in
    let r = c.in_err-relieve.ensures in
    rw (p.1, p.2) (record {
      takes = λ k seen h. came_unwritten (c.lines.invariant.between_lines k seen h).so_far r.part
          r.shelf_and_archive r.counts;
    })

pub returns-in_err-moved : goal.returns-in_err-moved
returns-in_err-moved g c =
    let p = err_from_is_err_and c.from_residual-in_err-moved.result c.from_residual-in_err-moved.ensures.1 in
    let piece = c.args.piece.now in
    let r = c.in_ok-relieve.ensures in
    rw (p.1, p.2) (record {
      takes = λ k seen h. c.in_err-moved.ensures.advances k (seen ++ take c.lines.at piece)
          (seen ++ piece) (rest_taken seen piece c.lines.at)
          (between_lines_passing (c.lines.invariant.between_lines k seen h) r.passes r.shelf_and_archive r.counts);
    })

pub returns-then-moved : goal.returns-then-moved
returns-then-moved g c =
    let piece = c.args.piece.now in
    let r = c.in_ok-relieve.ensures in
    record {
      takes = λ k seen h.
          let m = c.in_ok-moved.ensures.advances k (seen ++ take c.lines.at piece) (seen ++ piece)
          (rest_taken seen piece c.lines.at)
          (between_lines_passing (c.lines.invariant.between_lines k seen h) r.passes r.shelf_and_archive r.counts) in
          rw c.if-moved.true at m;
    }

pub lines-preserved : goal.lines-preserved
lines-preserved g c =
    let piece = c.args.piece.now in
    let r = c.in_ok-relieve.ensures in
    record {
      in_piece = grind (arith, common_steps, c.in_ok-moved.ensures.used.1);
      between_lines = λ k seen h.
          let m = c.in_ok-moved.ensures.advances k (seen ++ take c.lines.at piece) (seen ++ piece)
          (rest_taken seen piece c.lines.at)
          (between_lines_passing (c.lines.invariant.between_lines k seen h) r.passes r.shelf_and_archive r.counts) in
          rw (← next_seen seen piece c.lines.at c.in_ok-moved.moved.used) (rw c.if-moved.false at m);
    }

pub returns : goal.returns
returns g c =
    let whole : take c.lines.at c.args.piece.now ≡ c.args.piece.now = grind (arith, common_steps) in
    record { takes = λ k seen h. rw whole at (c.lines.invariant.between_lines k seen h) }
