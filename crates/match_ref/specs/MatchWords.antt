-- What the words of hexmatch ask for.
use Rattle.std.specs.Prelude.{◌≡◌, ℕ, Bool, false, true, List, Option, Some, None, if◌then◌else◌}
use Rattle.std.specs.Borrow.{Bor}
use Rattle.option_words.specs.Grammar.{Saying, word_name}
use Rattle.option_words.specs.Lines.{IsLine, value_in}
use Rattle.option_words.specs.Values.{IsNumberFrom, TextBytes, switch_word}
use Rattle.match_ref.specs.MatchTable.{match_form}
use Rattle.match_ref.specs.Openings.{AreOpenings}
use Rattle.match_ref.specs.declared.settings.Side.{Side}
use Rattle.match_ref.specs.declared.table.TheConstants.{SIZE, GAMES, THREADS, SEED, RECORDS}
use Rattle.match_ref.specs.declared.table.TheConstants.{PLAYOUTS, WORDS, EXPAND, WEIGHT}
use Rattle.match_ref.specs.declared.table.TheConstants.{SOLVE, LOOK, OPENING}
use Rattle.match_ref.specs.declared.words.MatchWords.{MatchWords}

-- the name that an option of the sides has for side a, or for side b
abbrev pub name_for : (is_b : Bool) (a b : TextBytes) → TextBytes
name_for is_b a b = if is_b then b else a

-- an option of the sides: its names for side a and for side b, its default, and its least and its
-- greatest number
abbrev pub SideOption : Type 0
SideOption = Bor TextBytes × Bor TextBytes × Bor TextBytes × ℕ × ℕ

-- the value of the option's name for side a, or for side b, is this number
abbrev pub IsSideNumber : (TextBytes → Option TextBytes) → Bool → SideOption → ℕ → Type 0
IsSideNumber value is_b option n =
    IsNumberFrom option.3 option.4 (value (name_for is_b option.0.now option.1.now)) n

-- Side a, or side b, plays with what these values of its names say.
pub record IsSaidSide (value : TextBytes → Option TextBytes) (is_b : Bool) (s : Side) : Type 0 where
  pub playouts_is : IsNumberFrom PLAYOUTS.3 PLAYOUTS.4
      (value (name_for is_b PLAYOUTS.0.now PLAYOUTS.1.now)) s.playouts
  pub words_is : IsNumberFrom WORDS.3 WORDS.4
      (value (name_for is_b WORDS.0.now WORDS.1.now)) s.words
  pub expand_is : IsNumberFrom EXPAND.3 EXPAND.4
      (value (name_for is_b EXPAND.0.now EXPAND.1.now)) s.expand
  pub weight_is : IsNumberFrom WEIGHT.3 WEIGHT.4
      (value (name_for is_b WEIGHT.0.now WEIGHT.1.now)) s.weight
  pub solve_is : IsNumberFrom SOLVE.3 SOLVE.4
      (value (name_for is_b SOLVE.0.now SOLVE.1.now)) s.solve
  pub look_is : IsNumberFrom LOOK.3 LOOK.4
      (value (name_for is_b LOOK.0.now LOOK.1.now)) s.look

-- The match is what these values of the names say, and no positional word is said.
pub record AreMatchWords (value : TextBytes → Option TextBytes) (w : MatchWords) : Type 0 where
  pub word : value word_name ≡ None
  pub size : IsNumberFrom SIZE.2 SIZE.3 (value SIZE.0.now) w.setup.size
  pub games : IsNumberFrom GAMES.2 GAMES.3 (value GAMES.0.now) w.setup.games
  pub threads : IsNumberFrom THREADS.2 THREADS.3 (value THREADS.0.now) w.setup.threads
  pub seed : IsNumberFrom SEED.2 SEED.3 (value SEED.0.now) w.setup.seed
  pub openings : AreOpenings w.setup.size (value OPENING.0.now) w.setup.openings
  pub a : IsSaidSide value false w.setup.a
  pub b : IsSaidSide value true w.setup.b
  pub records : value RECORDS.0.now ≡ Some (switch_word w.records)

-- The words are a line of hexmatch's form, and with the defaults for what it does not say, its
-- values are this match.
pub record AskFor (words : List TextBytes) (w : MatchWords) : Type 0 where
  pub said : List Saying
  pub line : IsLine match_form words said
  pub values : AreMatchWords (value_in match_form said) w

-- the words ask for no match
abbrev pub AskForNone : List TextBytes → Type 0
AskForNone words = (w : MatchWords) → ¬ AskFor words w
