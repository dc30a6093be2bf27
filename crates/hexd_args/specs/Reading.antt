-- What a command line's words ask for.
use Rattle.std.specs.Prelude.{◌≡◌, ◌↔◌, List, Option, Some, IfSome}
use Rattle.option_words.specs.Grammar.{Saying, SaysInOrder, SaysOnce}
use Rattle.option_words.specs.Lines.{value_in}
use Rattle.option_words.specs.Values.{TextBytes}
use Rattle.hexd_args.specs.Table.{hexd_form}
use Rattle.hexd_args.specs.Values.{AreOptions, OptionsInRange}
use Rattle.hexd_args.specs.declared.settings.Options.{Options}

-- The words say a mode and options, each at most once, and with the defaults for what they do not
-- say, the values are these options.
pub record WellFormed (words : List TextBytes) (o : Options) : Type 0 where
  pub said : List Saying
  pub says : SaysInOrder hexd_form.options words said
  pub once : SaysOnce said
  pub values : AreOptions (value_in hexd_form said) o

-- no options make these words well formed
abbrev pub AreRefused : List TextBytes → Type 0
AreRefused words = (o : Options) → ¬ WellFormed words o

-- The words are read as these options, in their ranges, or as none if they are refused. This is
-- what a line that was read keeps.
pub record AreReadAs (words : List TextBytes) (options : Option Options) : Type 0 where
  pub exact : (o : Options) → (options ≡ Some o) ↔ WellFormed words o
  pub ranges : IfSome options OptionsInRange
