-- Words that ask for a match ask for the one that was refereed.
use Rattle.std.proofs.Common.{◌≡◌, Err, refl, subst}
use Rattle.match_ref.specs.MatchRuns.{Referees}
use Rattle.match_ref.specs.declared.refusals.MatchError.TheVariants as error
use Rattle.match_ref.specs.declared.words.MatchWords.{MatchWords}
use Rattle.match_ref.proofs.RunLaws.{match_counts, match_no_usage, match_status, match_untouched}
use Rattle.match_ref.proofs.RunLaws.{same_asked}
use Rattle.match_ref.proofs.running.serve.Goals as goal

pub returns-in-Ok-None-clause-usage : goal.returns-in-Ok-None-clause-usage
returns-in-Ok-None-clause-usage g c = λ e w well.
    let is = (c.in-Ok-None.ensures.exact w).1 well in let none = c.in-Ok-None.field-0-is in cc

pub returns-in-Ok-None-clause-played : goal.returns-in-Ok-None-clause-played
returns-in-Ok-None-clause-played g c = λ w well.
    let is = (c.in-Ok-None.ensures.exact w).1 well in
    let none = c.in-Ok-None.field-0-is in absurd (cc)

pub returns-in-Err-clause-played : goal.returns-in-Err-clause-played
returns-in-Err-clause-played g c = λ w well. (Err error.Memory, refl, refl)

pub returns-in-Ok-Some-clause-status : goal.returns-in-Ok-Some-clause-status
returns-in-Ok-Some-clause-status g c = rw c.end_of.ensures (match_status c.referee.result)

pub returns-in-Ok-Some-clause-usage : goal.returns-in-Ok-Some-clause-usage
returns-in-Ok-Some-clause-usage g c =
    rw c.end_of.ensures (λ e. absurd (match_no_usage c.referee.result e))

pub returns-in-Ok-Some-clause-refused : goal.returns-in-Ok-Some-clause-refused
returns-in-Ok-Some-clause-refused g c = λ refused.
    absurd (refused c.in-Ok-Some.asked
    ((c.in-Ok-Some.ensures.exact c.in-Ok-Some.asked).0 c.in-Ok-Some.field-0-is))

pub returns-in-Ok-Some-clause-untouched : goal.returns-in-Ok-Some-clause-untouched
returns-in-Ok-Some-clause-untouched g c =
    rw c.end_of.ensures
    (match_untouched c.referee.result c.in-Ok-Some.asked
    (g.L.Link.told c.args.link.now) (g.L.Link.told c.referee.new.link) c.referee.ensures.referees)

pub returns-in-Ok-Some-clause-played : goal.returns-in-Ok-Some-clause-played
returns-in-Ok-Some-clause-played g c = λ w well.
    let asked : MatchWords = c.in-Ok-Some.asked in
    let same : asked ≡ w = same_asked c.in-Ok-Some.field-0 asked w c.in-Ok-Some.field-0-is
    ((c.in-Ok-Some.ensures.exact w).1 well) in (
      c.referee.result,
      c.end_of.ensures,
      subst (λ (v : MatchWords). Referees c.referee.result v
          (g.L.Link.told c.args.link.now) (g.L.Link.told c.referee.new.link)) same
          c.referee.ensures.referees,
    )

pub returns-in-Ok-Some-clause-write_fault : goal.returns-in-Ok-Some-clause-write_fault
returns-in-Ok-Some-clause-write_fault g c =
    rw c.end_of.ensures
    (match_counts (g.L.Link.write_faults c.args.link.now) (g.L.Link.write_faults c.referee.new.link)
    c.referee.result c.referee.ensures.write_fault)
