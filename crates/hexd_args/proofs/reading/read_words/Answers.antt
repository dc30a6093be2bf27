use Rattle.std.proofs.Common.{◌≡◌, ◌↔◌, List, subst, sym, Option, Some, None}
use Rattle.std.proofs.lemmas.Result.{IfOk-weaker}
use Rattle.clap.specs.Words.{App, first_value, found_of}
use Rattle.option_words.specs.Command.{ReadsForm}
use Rattle.option_words.specs.Finding.{FindsIn, FindsLine}
use Rattle.option_words.specs.Values.{TextBytes}
use Rattle.hexd_args.specs.Reading.{WellFormed}
use Rattle.hexd_args.specs.Table.{hexd_app, hexd_form}
use Rattle.hexd_args.specs.declared.settings.Options.{Options}
use Rattle.hexd_args.proofs.RangeLemmas.{ranges_from}
use Rattle.hexd_args.proofs.WellLemmas.{found, hexd_reads, none_found}
use Rattle.hexd_args.proofs.reading.read_words.Goals as goal

reads_now : (app : App) → app ≡ hexd_app → ReadsForm app hexd_form
reads_now app is = subst (λ (a : App). ReadsForm a hexd_form) (sym is) hexd_reads

-- no options if the words are not well formed
none_well : (words : List TextBytes) → ((o : Options) → WellFormed words o → ⊥) → (o : Options)
    → (let r : Option Options = None in r ≡ Some o) ↔ WellFormed words o
none_well words never o = ((λ same. cc), λ well. absurd (never o well))

pub returns-in-Some-clause-exact : goal.returns-in-Some-clause-exact
returns-in-Some-clause-exact c =
    let words = c.args.words.now in
    let met : FindsLine hexd_form words c.in-Some.matches
    = subst (FindsIn hexd_form words) c.in-Some.is
    (c.in_ok-matches.ensures hexd_form (reads_now _ c.in_ok-command.ensures)) in
    let both = λ (o : Options). found words c.in-Some.matches o met in
    IfOk-weaker c.options_of.result _ _ (λ r h o. (
      (λ is. (both o).0 ((h o).0 is)),
      (λ well. (h o).1 ((both o).1 well)),
    )) c.options_of.ensures

pub returns-in-None-clause-exact : goal.returns-in-None-clause-exact
returns-in-None-clause-exact c =
    let words = c.args.words.now in
    let none : FindsIn hexd_form words None
    = subst (FindsIn hexd_form words) c.in-None.is
    (c.in_ok-matches.ensures hexd_form (reads_now _ c.in_ok-command.ensures)) in
    none_well words (λ o well. none_found words o none well)

pub returns-in-Some-clause-ranges : goal.returns-in-Some-clause-ranges
returns-in-Some-clause-ranges c =
    IfOk-weaker c.options_of.result _ _
    (λ r h. ranges_from (first_value (found_of c.in-Some.matches)) r h) c.options_of.ensures
