use Rattle.std.proofs.Common.{◌≡◌, take, rules, arith, rules, true, false, subst, sym, length}
use Rattle.std.proofs.lemmas.List.{take_all}
use Rattle.htp_line.specs.Splitting.{so_far, grown, Advances}
use Rattle.htp_line.proofs.SplitLaws.{goes_on, goes_past, no_feed, feed_at}
use Rattle.htp_line.proofs.splitter.Splitter.push.Goals as goal

pub returns-in-None-clause-stream : goal.returns-in-None-clause-stream
returns-in-None-clause-stream c = λ seen stands.
    let piece = c.args.piece.now in
    let new : c.extend.new.self ≡ record { line = grown (so_far c.args.self.now) piece; ended = false } = search rules in
    subst (Advances c.extend.new.self seen) (sym (take_all (length piece) piece (omega arith)))
    (goes_on c.args.self.now c.extend.new.self seen piece stands new (no_feed piece (sym c.in-None.ensures)))

pub returns-in-Some-clause-stream : goal.returns-in-Some-clause-stream
returns-in-Some-clause-stream c = λ seen stands.
    let piece = c.args.piece.now in
    let at = feed_at piece c.in-Some.end (sym c.in-Some.ensures) in
    let new : c.close.new.self ≡ record { line = grown (so_far c.args.self.now) (take c.in-Some.end piece); ended = true } = search rules in
    subst (Advances c.close.new.self seen) (sym at.1)
    (goes_past c.args.self.now c.close.new.self seen (take c.in-Some.end piece) stands new at.0)
