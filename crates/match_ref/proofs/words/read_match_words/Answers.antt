use Rattle.std.proofs.Common.{◌≡◌, subst, sym, None}
use Rattle.std.proofs.lemmas.Result.{IfOk-weaker}
use Rattle.clap.specs.Words.{App, first_value, found_of}
use Rattle.option_words.specs.Command.{ReadsForm}
use Rattle.option_words.specs.Finding.{FindsIn, FindsLine}
use Rattle.match_ref.specs.MatchTable.{match_app, match_form}
use Rattle.match_ref.specs.declared.words.MatchWords.{MatchWords}
use Rattle.match_ref.proofs.WordLaws.{found, match_reads, none_found, ranges_from}
use Rattle.match_ref.proofs.words.read_match_words.Goals as goal

reads_now : (app : App) → app ≡ match_app → ReadsForm app match_form
reads_now app is = subst (λ (a : App). ReadsForm a match_form) (sym is) match_reads

pub returns-in-Some-clause-exact : goal.returns-in-Some-clause-exact
returns-in-Some-clause-exact c =
    let words = c.args.words.now in
    let met : FindsLine match_form words c.in-Some.found
    = subst (FindsIn match_form words) c.in-Some.is
    (c.in_ok-found.ensures match_form (reads_now _ c.in_ok-command.ensures)) in
    let both = λ (w : MatchWords). found words c.in-Some.found w met in
    IfOk-weaker c.said_match.result _ _ (λ r h w. (
      (λ is. (both w).0 ((h w).0 is)),
      (λ well. (h w).1 ((both w).1 well)),
    )) c.said_match.ensures

pub returns-in-Some-clause-ranges : goal.returns-in-Some-clause-ranges
returns-in-Some-clause-ranges c =
    IfOk-weaker c.said_match.result _ _
    (λ r h. ranges_from (first_value (found_of c.in-Some.found)) r h) c.said_match.ensures

pub returns-in-None-clause-exact : goal.returns-in-None-clause-exact
returns-in-None-clause-exact c =
    let words = c.args.words.now in
    let none : FindsIn match_form words None
    = subst (FindsIn match_form words) c.in-None.is
    (c.in_ok-found.ensures match_form (reads_now _ c.in_ok-command.ensures)) in
    λ w. ((λ same. cc), λ well. absurd (none_found words w none well))
