-- The form of hexd's words: its options, and a positional word, which names the mode.
use Rattle.std.specs.Prelude.{true, [], ◌∷◌}
use Rattle.clap.specs.Words.{App}
use Rattle.option_words.specs.Command.{app_of_form}
use Rattle.option_words.specs.Grammar.{Form, OptionTable}
use Rattle.hexd_args.specs.declared.table.TheConstants.{SIZE, WORKERS, PLAYOUTS, SEED, WORDS}
use Rattle.hexd_args.specs.declared.table.TheConstants.{EXPAND, WEIGHT, HSEARCH, STEPS, BUDGET}
use Rattle.hexd_args.specs.declared.table.TheConstants.{SOLVE, LOOK, BEST, TRACE}

-- the options, each with its default; `trace` has none
abbrev pub hexd_table : OptionTable
hexd_table = (SIZE.0.now, SIZE.1.now ∷ [])
    ∷ (WORKERS.0.now, WORKERS.1.now ∷ [])
    ∷ (PLAYOUTS.0.now, PLAYOUTS.1.now ∷ [])
    ∷ (SEED.0.now, SEED.1.now ∷ [])
    ∷ (WORDS.0.now, WORDS.1.now ∷ [])
    ∷ (EXPAND.0.now, EXPAND.1.now ∷ [])
    ∷ (WEIGHT.0.now, WEIGHT.1.now ∷ [])
    ∷ (HSEARCH.0.now, HSEARCH.1.now ∷ [])
    ∷ (SOLVE.0.now, SOLVE.1.now ∷ [])
    ∷ (LOOK.0.now, LOOK.1.now ∷ [])
    ∷ (STEPS.0.now, STEPS.1.now ∷ [])
    ∷ (BUDGET.0.now, BUDGET.1.now ∷ [])
    ∷ (BEST.0.now, BEST.1.now ∷ [])
    ∷ (TRACE.now, [])
    ∷ []

abbrev pub hexd_form : Form
hexd_form = record { required = true; options = hexd_table }

-- the command, as clap is given it
unfoldable pub hexd_app : App
hexd_app = app_of_form hexd_form
