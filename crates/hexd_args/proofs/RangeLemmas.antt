-- Options are in their ranges.
use Rattle.std.proofs.Common.{◌≡◌, Option, Some, None, refl, ◌↔◌, IfSome, arith}
use Rattle.option_words.specs.Values.{TextBytes}
use Rattle.option_words.proofs.NumberLemmas.{number_in_range}
use Rattle.tree_words.specs.Settings.{AreInRange}
use Rattle.tree_words.specs.declared.settings.Knobs.{Knobs}
use Rattle.hexd_args.specs.Values.{OptionsInRange, AreKnobs, AreOptions}
use Rattle.hexd_args.specs.declared.settings.Options.{Options}
use Rattle.hexd_args.specs.declared.table.TheConstants.{SIZE, WORKERS, PLAYOUTS, SEED, WORDS}
use Rattle.hexd_args.specs.declared.table.TheConstants.{EXPAND, WEIGHT, SOLVE, LOOK, STEPS, BUDGET}

knobs_in_range : (value : TextBytes → Option TextBytes) (k : Knobs) → AreKnobs value k
    → AreInRange k
knobs_in_range value k h =
    let seed = number_in_range _ _ _ (value SEED.0.now) h.seed in
    record {
      workers = number_in_range _ _ _ (value WORKERS.0.now) h.workers;
      playouts = number_in_range _ _ _ (value PLAYOUTS.0.now) h.playouts;
      seed = omega (arith, seed.1);
      words = number_in_range _ _ _ (value WORDS.0.now) h.words;
      expand = number_in_range _ _ _ (value EXPAND.0.now) h.expand;
      weight = (number_in_range _ _ _ (value WEIGHT.0.now) h.weight).1;
    }

pub in_range : (value : TextBytes → Option TextBytes) (o : Options) → AreOptions value o
    → OptionsInRange o
in_range value o h = record {
  size = number_in_range _ _ _ (value SIZE.0.now) h.size;
  knobs = knobs_in_range value o.knobs h.knobs;
  solve = (number_in_range _ _ _ (value SOLVE.0.now) h.solve).1;
  look = (number_in_range _ _ _ (value LOOK.0.now) h.look).1;
  steps = (number_in_range _ _ _ (value STEPS.0.now) h.steps).1;
  budget = (number_in_range _ _ _ (value BUDGET.0.now) h.budget).0;
}

pub ranges_from : (value : TextBytes → Option TextBytes) (r : Option Options)
    → ((o : Options) → (r ≡ Some o) ↔ AreOptions value o) → IfSome r OptionsInRange
ranges_from value None h = tt
ranges_from value (Some o) h = in_range value o ((h o).0 refl)
