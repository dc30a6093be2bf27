-- How the words of a command line say a positional word and options.
use Rattle.std.specs.Prelude.{◌≡◌, ◌≢◌, ◌==◌, Bool, false, List, [], ◌∷◌, ◌++◌, Option, Some, None}
use Rattle.std.specs.Prelude.{codes, map, unwrap_or, find, option_map}
use Rattle.std.specs.List.{All, Contains, AllPairs, flat_map}
use Rattle.std.specs.Str.{bytes_eq}
use Rattle.option_words.specs.Values.{TextBytes}

-- the options by name, each with the text that stands for it if it is not said, if one does
abbrev pub OptionTable : Type 0
OptionTable = List (TextBytes × List TextBytes)

-- What a program takes: its options, and whether one positional word has to be there.
pub record Form : Type 0 where
  pub required : Bool
  pub options : OptionTable

-- a name, and the value that is said of it
abbrev pub Saying : Type 0
Saying = TextBytes × TextBytes

-- the name under which the positional word is said
abbrev pub word_name : TextBytes
word_name = codes "word"

-- One part of the words: an option with its value in the same word, an option and its value in two
-- words, or a positional word.
pub data Part : Type 0 where
  joined : TextBytes → TextBytes → Part
  apart : TextBytes → TextBytes → Part
  plain : TextBytes → Part

-- the words of a part: `--name=value`, `--name value`, or the word alone
abbrev pub part_words : Part → List TextBytes
part_words (joined name value) = (codes "--" ++ (name ++ (codes "=" ++ value))) ∷ []
part_words (apart name value) = (codes "--" ++ name) ∷ value ∷ []
part_words (plain word) = word ∷ []

-- what a part says
abbrev pub saying : Part → Saying
saying (joined name value) = (name, value)
saying (apart name value) = (name, value)
saying (plain word) = (word_name, word)

-- the names of the options
abbrev pub option_names : OptionTable → List TextBytes
option_names = map (λ option. option.0)

-- the word begins with a hyphen
abbrev pub begins_with_hyphen : TextBytes → Bool
begins_with_hyphen [] = false
begins_with_hyphen (byte ∷ bytes) = byte == 45

-- An option has one of the names in full. Neither a value of its own word nor a positional word
-- begins with a hyphen.
abbrev pub IsPart : OptionTable → Part → Type 0
IsPart options (joined name value) = Contains (option_names options) name
IsPart options (apart name value) =
    Contains (option_names options) name × (begins_with_hyphen value ≡ false)
IsPart options (plain word) = begins_with_hyphen word ≡ false

-- the word `--` and the words after it, if it stands there
abbrev pub after_hyphens : Option (List TextBytes) → List TextBytes
after_hyphens None = []
after_hyphens (Some rest) = codes "--" ∷ rest

-- The words are parts, and then maybe `--` and positional words of any form; they say these things
-- in this order.
pub record SaysInOrder (options : OptionTable) (words : List TextBytes)
    (said : List Saying) : Type 0 where
  pub parts : List Part
  pub rest : Option (List TextBytes)
  pub spelled : words ≡ flat_map part_words parts ++ after_hyphens rest
  pub are_parts : All (IsPart options) parts
  pub said_is : said ≡ map saying parts ++ map (λ word. saying (plain word)) (unwrap_or rest [])

-- neither an option nor a positional word is said twice
abbrev pub SaysOnce : List Saying → Type 0
SaysOnce = AllPairs (λ earlier later. earlier.0 ≢ later.0)

-- what stands for the options that are not said
abbrev pub default_sayings : TextBytes → List TextBytes → List Saying
default_sayings name [] = []
default_sayings name (text ∷ texts) = (name, text) ∷ []

abbrev pub defaults_of : OptionTable → List Saying
defaults_of [] = []
defaults_of (option ∷ options) = default_sayings option.0 option.1 ++ defaults_of options

-- the first value that is said of a name
abbrev pub value_of : List Saying → TextBytes → Option TextBytes
value_of said name = option_map (λ s. s.1) (find (λ s. bytes_eq s.0 name) said)
