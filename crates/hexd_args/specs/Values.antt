-- What the texts of the options' values say.
use Rattle.std.specs.Prelude.{◌≡◌, ◌≢◌, ◌≤◌, [], Option, Some, codes}
use Rattle.option_words.specs.Grammar.{word_name}
use Rattle.option_words.specs.Values.{IsNumberFrom, TextBytes, switch_word}
use Rattle.tree_words.specs.Settings.{AreInRange}
use Rattle.tree_words.specs.declared.settings.Knobs.{Knobs}
use Rattle.hexd_args.specs.declared.settings.Mode.{Mode}
use Rattle.hexd_args.specs.declared.settings.Mode.TheVariants.{Htp, Check, Migrate, Audit, Sim}
use Rattle.hexd_args.specs.declared.settings.Mode.TheVariants.{Bench, Solve}
use Rattle.hexd_args.specs.declared.settings.Options.{Options}
use Rattle.hexd_args.specs.declared.table.TheConstants.{SIZE, WORKERS, PLAYOUTS, SEED, WORDS}
use Rattle.hexd_args.specs.declared.table.TheConstants.{EXPAND, WEIGHT, HSEARCH, STEPS, BUDGET}
use Rattle.hexd_args.specs.declared.table.TheConstants.{SOLVE, LOOK, BEST, TRACE}

-- the word that names a mode
abbrev pub mode_word : Mode → TextBytes
mode_word Htp = codes "htp"
mode_word Check = codes "check"
mode_word Migrate = codes "migrate"
mode_word Audit = codes "audit"
mode_word Sim = codes "sim"
mode_word Bench = codes "bench"
mode_word Solve = codes "solve"

-- The knobs are what these values of the names say.
pub record AreKnobs (value : TextBytes → Option TextBytes) (k : Knobs) : Type 0 where
  pub workers : IsNumberFrom WORKERS.2 WORKERS.3 (value WORKERS.0.now) k.workers
  pub playouts : IsNumberFrom PLAYOUTS.2 PLAYOUTS.3 (value PLAYOUTS.0.now) k.playouts
  pub seed : IsNumberFrom SEED.2 SEED.3 (value SEED.0.now) k.seed
  pub words : IsNumberFrom WORDS.2 WORDS.3 (value WORDS.0.now) k.words
  pub expand : IsNumberFrom EXPAND.2 EXPAND.3 (value EXPAND.0.now) k.expand
  pub weight : IsNumberFrom WEIGHT.2 WEIGHT.3 (value WEIGHT.0.now) k.weight

-- The options are what these values of the names say.
pub record AreOptions (value : TextBytes → Option TextBytes) (o : Options) : Type 0 where
  pub mode : value word_name ≡ Some (mode_word o.mode)
  pub size : IsNumberFrom SIZE.2 SIZE.3 (value SIZE.0.now) o.size
  pub knobs : AreKnobs value o.knobs
  pub hsearch : value HSEARCH.0.now ≡ Some (switch_word o.hsearch)
  pub solve : IsNumberFrom SOLVE.2 SOLVE.3 (value SOLVE.0.now) o.solve
  pub look : IsNumberFrom LOOK.2 LOOK.3 (value LOOK.0.now) o.look
  pub steps : IsNumberFrom STEPS.2 STEPS.3 (value STEPS.0.now) o.steps
  pub budget : IsNumberFrom BUDGET.2 BUDGET.3 (value BUDGET.0.now) o.budget
  pub best : value BEST.0.now ≡ Some (switch_word o.best)
  pub trace : value TRACE.now ≡ o.trace
  pub trace_is_named : o.trace ≢ Some []

-- The options are in their ranges.
pub record OptionsInRange (o : Options) : Type 0 where
  pub size : (SIZE.2 ≤ o.size) × (o.size ≤ SIZE.3)
  pub knobs : AreInRange o.knobs
  pub solve : o.solve ≤ SOLVE.3
  pub look : o.look ≤ LOOK.3
  pub steps : o.steps ≤ STEPS.3
  pub budget : BUDGET.2 ≤ o.budget
