-- The form of hexmatch's words: its options, and no positional word that has to be there.
use Rattle.std.specs.Prelude.{false, [], ◌∷◌, ◌++◌}
use Rattle.clap.specs.Words.{App}
use Rattle.option_words.specs.Command.{app_of_form}
use Rattle.option_words.specs.Grammar.{Form, OptionTable}
use Rattle.option_words.specs.Values.{TextBytes}
use Rattle.match_ref.specs.declared.table.TheConstants.{SIZE, GAMES, THREADS, SEED, RECORDS}
use Rattle.match_ref.specs.declared.table.TheConstants.{OPENING}
use Rattle.match_ref.specs.declared.table.TheConstants.{PLAYOUTS, WORDS, EXPAND, WEIGHT}
use Rattle.match_ref.specs.declared.table.TheConstants.{SOLVE, LOOK}

-- the options of the match, each with its default; `opening` has none
abbrev pub match_table : OptionTable
match_table = (SIZE.0.now, SIZE.1.now ∷ [])
    ∷ (GAMES.0.now, GAMES.1.now ∷ [])
    ∷ (THREADS.0.now, THREADS.1.now ∷ [])
    ∷ (SEED.0.now, SEED.1.now ∷ [])
    ∷ (RECORDS.0.now, RECORDS.1.now ∷ [])
    ∷ (OPENING.0.now, [])
    ∷ []

-- an option of the sides: its name for side a, that for side b, and one default
abbrev pub both_sides : (a b default : TextBytes) → OptionTable
both_sides a b default = (a, default ∷ []) ∷ (b, default ∷ []) ∷ []

abbrev pub side_table : OptionTable
side_table = both_sides PLAYOUTS.0.now PLAYOUTS.1.now PLAYOUTS.2.now
    ++ both_sides WORDS.0.now WORDS.1.now WORDS.2.now
    ++ both_sides EXPAND.0.now EXPAND.1.now EXPAND.2.now
    ++ both_sides WEIGHT.0.now WEIGHT.1.now WEIGHT.2.now
    ++ both_sides SOLVE.0.now SOLVE.1.now SOLVE.2.now
    ++ both_sides LOOK.0.now LOOK.1.now LOOK.2.now

abbrev pub match_form : Form
match_form = record { required = false; options = match_table ++ side_table }

-- the command, as clap is given it
unfoldable pub match_app : App
match_app = app_of_form match_form
