-- The command, as clap reads it: one positional argument, and options with a value each.
use Rattle.std.specs.Prelude.{◌≡◌, Bool, true, not, List, [], ◌∷◌, Option, Some, codes, map}
use Rattle.std.specs.Prelude.{false, option_map}
use Rattle.std.specs.Borrow.{Bor}
use Rattle.std.specs.List.{list_all}
use Rattle.std.specs.Option.{option_to_list}
use Rattle.std.specs.Str.{bytes_eq}
use Rattle.clap.specs.Faults.{is_simple_and_free}
use Rattle.clap.specs.Lexer.{has_byte}
use Rattle.clap.specs.Simple.{App, Shape, built, is_simple, new_app, new_rule, new_shape, on_top}
use Rattle.clap.specs.Simple.{with_rule}
use Rattle.clap.specs.Walk.{Rule}
use Rattle.clap.specs.declared.builder.action.ArgAction.TheVariants.{Set}
use Rattle.clap.specs.declared.builder.value_parser.ValueParser.TheVariants as vp
use Rattle.option_words.specs.Grammar.{Form, OptionTable, word_name}
use Rattle.option_words.specs.Values.{TextBytes}

-- an option as `--name` with one value
abbrev pub option_rule : TextBytes × List TextBytes → Rule
option_rule o = record (new_rule o.0) { long = Some o.0; action = Some Set; defaults = o.1 }

-- the positional word
abbrev pub word_rule : Bool → Rule
word_rule required = record (new_rule word_name) { action = Some Set; required = required }

-- no program's name before the words, and neither `--help` nor `--version`
abbrev pub plain_app : App
plain_app = on_top (λ s. record s {
  no_binary_name = true;
  disable_help_flag = true;
  disable_version_flag = true;
}) (new_app (codes "words"))

-- the command with these options, one after another
abbrev pub with_options : App → OptionTable → App
with_options a [] = a
with_options a (o ∷ os) = with_options (with_rule a (option_rule o)) os

-- the command of a form
abbrev pub app_of_form : Form → App
app_of_form form = with_options (with_rule plain_app (word_rule form.required)) form.options

-- an option of a command, as a form has it
abbrev pub option_of : Bor TextBytes × Option (Bor TextBytes) → TextBytes × List TextBytes
option_of o = (o.0.now, option_to_list (option_map (λ (t : Bor TextBytes). t.now) o.1))

-- the form with these options of a command
abbrev pub form_of : Bool → List (Bor TextBytes × Option (Bor TextBytes)) → Form
form_of required options = record { required = required; options = map option_of options }

-- ---- the same, as clap builds it

abbrev pub word_built : Bool → Rule
word_built required = record (word_rule required) {
  index = Some 1;
  parser = Some vp.String;
  range = Some (record { start_inclusive = 1; end_inclusive = 1 });
}

abbrev pub option_built : TextBytes × List TextBytes → Rule
option_built o = record (option_rule o) {
  parser = Some vp.String;
  range = Some (record { start_inclusive = 1; end_inclusive = 1 });
}

abbrev pub rules_with : Form → List Rule
rules_with form = word_built form.required ∷ map option_built form.options

abbrev pub shape_with : Form → Shape
shape_with form = record (new_shape (codes "words")) {
  rules = rules_with form;
  no_binary_name = true;
  disable_help_flag = true;
  disable_help_subcommand = true;
  disable_version_flag = true;
  is_built = true;
}

-- the name is not empty, and has no `=`
abbrev pub is_name : TextBytes → Bool
is_name [] = false
is_name (b ∷ bs) = not (has_byte 61 (b ∷ bs))

-- The command reads the form: clap builds the form's rules, no option is named as the positional
-- word, and each has a name.
pub record ReadsForm (app : App) (form : Form) : Type 0 where
  pub built : built app ≡ record { top = shape_with form; subs = [] }
  pub simple : is_simple app ≡ true
  pub free : is_simple_and_free app ≡ true
  pub apart : list_all (λ o. not (bytes_eq word_name o.0)) form.options ≡ true
  pub named : list_all (λ o. is_name o.0) form.options ≡ true
  pub top : app.top.no_binary_name ≡ true
