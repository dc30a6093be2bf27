-- Which words are a line.
use Rattle.std.specs.Prelude.{◌≡◌, ◌++◌, true, List, IsSome, Option}
use Rattle.option_words.specs.Grammar.{Form, Saying, SaysInOrder, SaysOnce, defaults_of, value_of}
use Rattle.option_words.specs.Grammar.{word_name}
use Rattle.option_words.specs.Values.{TextBytes}

-- The words say each thing at most once, and a positional word if one is required, whatever the
-- values are.
pub record IsLine (form : Form) (words : List TextBytes) (said : List Saying) : Type 0 where
  pub says : SaysInOrder form.options words said
  pub once : SaysOnce said
  pub word : form.required ≡ true → IsSome (value_of said word_name)

-- the value of a name: the one that is said, and else the default
abbrev pub value_in : Form → List Saying → TextBytes → Option TextBytes
value_in form said = value_of (said ++ defaults_of form.options)
