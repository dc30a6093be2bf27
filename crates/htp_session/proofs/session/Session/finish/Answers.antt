-- What answers the last line was given, if there is one.
use Rattle.std.proofs.Common.{◌≡◌, true, false, rules}
use Rattle.std.proofs.lemmas.Result.{err_from_is_err_and}
use Rattle.htp_session.proofs.Outcomes.{came_unwritten}
use Rattle.htp_session.proofs.NextLines.{last_line, next_answered, next_stopped}
use Rattle.htp_session.proofs.Feeding.{finished, finished_at_once, holding_none}
use Rattle.htp_session.proofs.session.Session.finish.Goals as goal

pub returns-then-not-finish : goal.returns-then-not-finish
returns-then-not-finish g c =
    let ended : c.finish.new.self.ended ≡ false = search rules in
    record {
      finishes = λ k seen h none. finished_at_once c.finish.new.self h none
          (c.finish.ensures.stream seen h.in_hand) ended;
    }

pub returns-in_err-answer : goal.returns-in_err-answer
returns-in_err-answer g c =
    let p = err_from_is_err_and c.from_residual.result c.from_residual.ensures.1 in
    let ended : c.finish.new.self.ended ≡ true = search rules in
    rw (p.1, p.2) (record {
      finishes = λ k seen h none.
          next_stopped c.answer.new.self.engine c.answer.new.self.out.items
          (holding_none c.clear.ensures.items h.so_far)
          (last_line c.finish.new.self seen (c.finish.ensures.stream seen h.in_hand) ended)
          c.in_err-answer.field-0.0 c.in_err-answer.ensures.writes c.in_err-answer.ensures.counts;
    })

pub returns-in_err-give_held : goal.returns-in_err-give_held
returns-in_err-give_held g c =
    let p = err_from_is_err_and c.from_residual-in_err-give_held.result c.from_residual-in_err-give_held.ensures.1 in
    let ended : c.finish.new.self.ended ≡ true = search rules in
    let r = c.in_err-give_held.ensures in
    rw (p.1, p.2) (record {
      finishes = λ k seen h none.
          came_unwritten
          (next_answered c.answer.new.self.engine c.answer.new.self.out.items
          (holding_none c.clear.ensures.items h.so_far)
          (last_line c.finish.new.self seen (c.finish.ensures.stream seen h.in_hand) ended)
          c.in_ok-answer.field-0 c.in_ok-answer.ensures.writes c.in_ok-answer.ensures.counts)
          r.gives r.shelf_and_archive r.counts;
    })

pub returns : goal.returns
returns g c =
    let ended : c.finish.new.self.ended ≡ true = search rules in
    let r = c.in_ok-give_held.ensures in
    let w = c.in_ok-answer.ensures.writes in
    record {
      finishes = λ k seen h none.
          finished c.args.devices.now c.clear.new.self.items w.0 c.in_ok-answer.field-0 none w.1
          (next_answered c.answer.new.self.engine c.answer.new.self.out.items
          (holding_none c.clear.ensures.items h.so_far)
          (last_line c.finish.new.self seen (c.finish.ensures.stream seen h.in_hand) ended)
          c.in_ok-answer.field-0 w c.in_ok-answer.ensures.counts)
          r.gives r.shelf_and_archive r.counts;
    }
