-- What was held at the end of a piece was given.
use Rattle.std.proofs.lemmas.Result.{err_from_is_err_and}
use Rattle.htp_session.proofs.Feeding.{fed_given, fed_unwritten}
use Rattle.htp_session.proofs.session.Session.feed.Goals as goal

pub returns-in_err-quit : goal.returns-in_err-quit
returns-in_err-quit g c =
    let p = err_from_is_err_and c.from_residual.result c.from_residual.ensures.1 in
    rw (p.1, p.2) (record { feeds = c.in_err-quit.ensures.takes })

pub returns-in_err-give_held : goal.returns-in_err-give_held
returns-in_err-give_held g c =
    let p = err_from_is_err_and c.from_residual-in_err-give_held.result c.from_residual-in_err-give_held.ensures.1 in
    let r = c.in_err-give_held.ensures in
    rw (p.1, p.2) (record {
      feeds = λ k seen h. fed_unwritten c.in_ok-quit.quit c.take.new.self c.take.new.self.out.items _
          (c.in_ok-quit.ensures.takes k seen h) r.gives r.shelf_and_archive r.counts;
    })

pub returns : goal.returns
returns g c =
    let r = c.in_ok-give_held.ensures in
    record {
      feeds = λ k seen h. fed_given c.in_ok-quit.quit k
          (record c.take.new.self { out = c.give_held.new.held }) c.take.new.self.out.items _
          (c.in_ok-quit.ensures.takes k seen h) r.gives r.shelf_and_archive r.counts;
    }
