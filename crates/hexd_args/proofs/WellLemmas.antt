-- Words that are well formed, and what is found in them.
use Rattle.std.proofs.Common.{◌≡◌, ◌≢◌, ◌∙◌, ◌↔◌, refl, sym, ap, subst, List, Option, Some, None}
use Rattle.std.specs.Prelude.{is_some}
use Rattle.clap.specs.Words.{first_value, found_of}
use Rattle.clap.specs.declared.parser.matches.ArgMatches.{ArgMatches}
use Rattle.option_words.specs.Command.{ReadsForm}
use Rattle.option_words.specs.Finding.{FindsIn, FindsLine}
use Rattle.option_words.specs.Grammar.{value_of, word_name}
use Rattle.option_words.specs.Lines.{IsLine}
use Rattle.option_words.specs.Values.{TextBytes, lone_hyphen}
use Rattle.option_words.proofs.Unsaid.{said_without_default}
use Rattle.hexd_args.specs.Reading.{WellFormed}
use Rattle.hexd_args.specs.Table.{hexd_app, hexd_form}
use Rattle.hexd_args.specs.Values.{AreOptions, mode_word}
use Rattle.hexd_args.specs.declared.settings.Mode.{Mode}
use Rattle.hexd_args.specs.declared.settings.Mode.TheVariants.{Htp, Check, Migrate, Audit, Sim}
use Rattle.hexd_args.specs.declared.settings.Mode.TheVariants.{Bench, Solve}
use Rattle.hexd_args.specs.declared.settings.Options.{Options}

pub hexd_reads : ReadsForm hexd_app hexd_form
unfolding hexd_app
hexd_reads = record { built = refl; simple = refl; free = refl; apart = refl; named = refl; top = refl }

-- no default says the mode
mode_said : (words : List TextBytes) (o : Options) → (w : WellFormed words o)
    → value_of w.said word_name ≡ Some (mode_word o.mode)
mode_said words o w = said_without_default hexd_form w.said word_name refl ∙ w.values.mode

line_of : (words : List TextBytes) (o : Options) → (w : WellFormed words o)
    → IsLine hexd_form words w.said
line_of words o w =
    record { says = w.says; once = w.once; word = λ _. ap is_some (mode_said words o w) }

mode_other : (m : Mode) → (let v : Option TextBytes = Some (mode_word m) in v) ≢ Some lone_hyphen
mode_other Htp = λ same. cc
mode_other Check = λ same. cc
mode_other Migrate = λ same. cc
mode_other Audit = λ same. cc
mode_other Sim = λ same. cc
mode_other Bench = λ same. cc
mode_other Solve = λ same. cc

pub none_found : (words : List TextBytes) (o : Options) → FindsIn hexd_form words None
    → WellFormed words o → ⊥
none_found words o none w =
    none w.said (line_of words o w) (λ same. mode_other o.mode (sym (mode_said words o w) ∙ same))

pub found : (words : List TextBytes) (m : ArgMatches) (o : Options) → FindsLine hexd_form words m
    → AreOptions (first_value (found_of m)) o ↔ WellFormed words o
found words m o f = (
  λ values. record {
    said = f.said;
    says = f.line.says;
    once = f.line.once;
    values = subst (λ (value : TextBytes → Option TextBytes). AreOptions value o)
        (f.values f.said f.line) values;
  },
  λ w. subst (λ (value : TextBytes → Option TextBytes). AreOptions value o)
      (sym (f.values w.said (line_of words o w))) w.values,
)
