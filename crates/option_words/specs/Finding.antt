-- What is found in words.
use Rattle.std.specs.Prelude.{◌≡◌, ◌≢◌, List, [], ◌∷◌, Option, Some, None, All, Contains}
use Rattle.std.specs.Prelude.{MatchOption}
use Rattle.std.specs.Str.{IsUtf8}
use Rattle.clap.specs.Words.{App, fault_of, first_of, first_value, found_of, matches_of, rows_of}
use Rattle.clap.specs.Words.{with_rule}
use Rattle.clap.specs.declared.parser.matches.ArgMatches.{ArgMatches}
use Rattle.option_words.specs.Command.{ReadsForm, option_rule}
use Rattle.option_words.specs.Grammar.{Form, Saying, value_of, word_name}
use Rattle.option_words.specs.Lines.{IsLine, value_in}
use Rattle.option_words.specs.Values.{TextBytes, lone_hyphen}

-- each word is text, and none is a hyphen alone
abbrev pub ArePlain : List TextBytes → Type 0
ArePlain words = All IsUtf8 words × (¬ Contains words lone_hyphen)

-- clap finds no fault in the words
abbrev pub HasNoFault : App → List TextBytes → Type 0
HasNoFault app words = fault_of app words ≡ []

-- words that are plain, and in which clap finds no fault, are a line
abbrev pub FaultlessIsLine : App → Form → List TextBytes → Type 0
FaultlessIsLine app form words =
    ArePlain words → HasNoFault app words → (said : List Saying) × IsLine form words said

-- the matches that clap finds in the words, or none if it finds a fault
abbrev pub FindsMatches : App → List TextBytes → Option ArgMatches → Type 0
FindsMatches app words found = MatchOption found (fault_of app words ≢ [])
    (λ m. HasNoFault app words × (rows_of (found_of m) ≡ matches_of app words))

-- what clap finds of a name in a line is what the line says of it, or the default
abbrev pub FindsWhatIsSaid : App → Form → List TextBytes → Type 0
FindsWhatIsSaid app form words = (said : List Saying) → IsLine form words said → (name : TextBytes)
    → first_of name (matches_of app words) ≡ value_in form said name

-- the words are a line, and these are the values of its names
pub record FindsLine (form : Form) (words : List TextBytes) (m : ArgMatches) : Type 0 where
  pub said : List Saying
  pub line : IsLine form words said
  pub values : (other : List Saying) → IsLine form words other
      → first_value (found_of m) ≡ value_in form other

-- Where something is found, the words are a line. Where nothing is, they are none, but for one
-- whose positional word is a hyphen alone.
abbrev pub FindsIn : Form → List TextBytes → Option ArgMatches → Type 0
FindsIn form words None = (said : List Saying) → IsLine form words said
    → value_of said word_name ≢ Some lone_hyphen → ⊥
FindsIn form words (Some m) = FindsLine form words m

-- that is so of each form that the command reads
abbrev pub FindsByForm : App → List TextBytes → Option ArgMatches → Type 0
FindsByForm app words found = (form : Form) → ReadsForm app form → FindsIn form words found
