use Rattle.std.proofs.Common.{List, ◌∙◌, rules, All, Contains, Option, Some, None}
use Rattle.std.specs.Str.{IsUtf8}
use Rattle.std.proofs.lemmas.Result.{IfOk-weaker}
use Rattle.clap.specs.Words.{App, app_of, found_of}
use Rattle.clap.specs.declared.parser.matches.ArgMatches.{ArgMatches}
use Rattle.option_words.specs.Command.{ReadsForm}
use Rattle.option_words.specs.Finding.{FindsIn, FindsMatches}
use Rattle.option_words.specs.Grammar.{Form}
use Rattle.option_words.specs.Values.{TextBytes, lone_hyphen}
use Rattle.option_words.proofs.HyphenLemmas.{line_more}
use Rattle.option_words.proofs.LineLaw.{line_clear, line_from, same_values}
use Rattle.option_words.proofs.TextLemmas.{all_other}
use Rattle.option_words.proofs.ValueLemmas.{values_by_rows}
use Rattle.option_words.proofs.finding.find.Goals as goal

found_in : (app : App) (form : Form) (words : List TextBytes) → ReadsForm app form
    → All IsUtf8 words → (Contains words lone_hyphen → ⊥) → (r : Option ArgMatches)
    → FindsMatches app words r → FindsIn form words r
found_in app form words reads text none None h
    = λ said line other. h (line_clear app form reads words said line)
found_in app form words reads text none (Some m) h =
    let line = line_from app form reads words (all_other words text none) h.0 in
    record {
      said = line.0;
      line = line.1;
      values = λ said is. values_by_rows (found_of m) _ h.1
          ∙ same_values app form reads words said is;
    }

pub returns-then-has_lone_hyphen : goal.returns-then-has_lone_hyphen
returns-then-has_lone_hyphen c =
    let found : Contains c.args.words.now lone_hyphen = search rules in
    λ form reads said line other. line_more form c.args.words.now said line other found

pub returns : goal.returns
returns c =
    let words = c.args.words.now in
    let alone : Contains words lone_hyphen → ⊥ = search rules in
    let text : All IsUtf8 words = c.if-has_lone_hyphen.ensures.text in
    IfOk-weaker c.matched.result _ _
    (λ r h form reads. found_in (app_of c.args.command) form words reads text alone r (h form reads)) c.matched.ensures
