-- The answer to one line: what was pushed, and what was said.
use Rattle.std.proofs.Common.{◌≡◌, ◌++◌, true, false, sym, subst, take, rules}
use Rattle.std.proofs.lemmas.Result.{err_from_is_err_and}
use Rattle.htp_line.specs.Splitting.{StandsAfter}
use Rattle.htp_session.proofs.NextLines.{next_line, next_answered, next_stopped, between_lines_open}
use Rattle.htp_session.proofs.NextLines.{between_lines_or_quit}
use Rattle.htp_session.proofs.Pieces.{front_of}
use Rattle.htp_session.proofs.session.Session.advance.Goals as goal

pub returns-then-not-fed-clause-advances : goal.returns-then-not-fed-clause-advances
returns-then-not-fed-clause-advances g c =
    let ended : c.push-fed.new.self.ended ≡ false = search rules in
    λ k seen taken parts h. between_lines_open h (c.push-fed.ensures.stream seen h.in_hand) ended

pub returns-in_err-quit-clause-advances : goal.returns-in_err-quit-clause-advances
returns-in_err-quit-clause-advances g c =
    let p = err_from_is_err_and c.from_residual.result c.from_residual.ensures.1 in
    let ended : c.push-fed.new.self.ended ≡ true = search rules in
    let n = c.push-fed.result.used in
    rw (p.1, p.2)
    (λ k seen taken parts h.
    next_stopped c.answer.new.self.engine c.answer.new.self.out.items h.so_far
    (next_line _ (front_of seen taken c.args.piece.now n parts)
    (c.push-fed.ensures.stream seen h.in_hand) ended)
    c.in_err-quit.field-0.0 c.in_err-quit.ensures.writes c.in_err-quit.ensures.counts)

pub returns-clause-advances : goal.returns-clause-advances
returns-clause-advances g c =
    let ended : c.push-fed.new.self.ended ≡ true = search rules in
    let n = c.push-fed.result.used in
    λ k seen taken parts h.
    let adv = c.push-fed.ensures.stream seen h.in_hand in
    let front = seen ++ take n c.args.piece.now in
    between_lines_or_quit c.in_ok-quit.quit c.answer.new.self.splitter front
    (next_answered c.answer.new.self.engine c.answer.new.self.out.items h.so_far
    (next_line _ (front_of seen taken c.args.piece.now n parts) adv ended)
    c.in_ok-quit.quit c.in_ok-quit.ensures.writes c.in_ok-quit.ensures.counts)
    (subst (λ s. StandsAfter s front) (sym c.in_ok-quit.ensures.splitter) adv.stands)
