-- Steps of a simulation.
use Rattle.std.specs.Prelude.{◌≡◌, ◌≢◌, ℕ, zero, suc, List, [], ◌∷◌, ◌++◌, length, Option, Some}
use Rattle.std.specs.Prelude.{None, slice_index, slice_set}
use Rattle.std.specs.List.{range_with_len}
use mathlib.Core.Option.{some}
use lib.ListN.{get_elem?}
use Rattle.tree_words.specs.declared.steps.Op.{Op}
use Rattle.tree_words.specs.declared.steps.Op.TheVariants.{Done}
use Rattle.arena_rule.specs.Afters.{answer_of, word_of}
use Rattle.arena_rule.specs.Rule.{words_after}
use Rattle.walker.specs.Machine.{op_of, next}
use Rattle.walker.specs.declared.machine.Walker.{Walker}
use Rattle.sim_run.specs.declared.simulation.Simulation.{Simulation}

-- what is seen of a simulation: the words of its tree, and its walkers, in the order of their
-- numbers
pub record SimulationData : Type 0 where
  pub words : List ℕ
  pub walkers : List Walker

abbrev pub data_of : Simulation → SimulationData
data_of r = record { words = r.words.items; walkers = r.walkers.items }

-- the walker has no step left
abbrev pub IsFinished : Walker → Type 0
IsFinished w = op_of w ≡ Done

-- The walker id, which is w, makes its next step, the op, and gets the answer: the words are those
-- after it, and no other walker changes.
pub record HasStepped (old : SimulationData) (id : ℕ) (w : Walker) (op : Op) (answer : ℕ)
    (new : SimulationData) : Type 0 where
  pub at : get_elem? old.walkers id ≡ some w
  pub is : op ≡ op_of w
  pub more : op ≢ Done
  pub answered : answer ≡ answer_of op (slice_index old.words (word_of op))
  pub words : new.words ≡ words_after old.words op
  pub walkers : new.walkers ≡ slice_set old.walkers id (next w answer)

-- the walker id, which is w, has no step left, and nothing changes
pub record IsPassedOver (old : SimulationData) (id : ℕ) (w : Walker)
    (new : SimulationData) : Type 0 where
  pub at : get_elem? old.walkers id ≡ some w
  pub finished : IsFinished w
  pub same : new ≡ old

-- one entry of a schedule: a step of the walker id with its answer, or none if none is left
abbrev pub StepsOnce : SimulationData → ℕ → Option (Op × ℕ) → SimulationData → Type 0
StepsOnce old id (Some made) new = (w : Walker) × HasStepped old id w made.0 made.1 new
StepsOnce old id None new = (w : Walker) × IsPassedOver old id w new

-- all entries of a schedule, one after the other
abbrev pub StepsAlong : SimulationData → List ℕ → SimulationData → Type 0
StepsAlong old [] new = new ≡ old
StepsAlong old (id ∷ ids) new =
    (later : SimulationData) × (made : Option (Op × ℕ)) × StepsOnce old id made later
    × StepsAlong later ids new

-- the schedule of so many rounds: in each one step of each worker, by rising number
abbrev pub rounds : ℕ → ℕ → List ℕ
rounds workers zero = []
rounds workers (suc n) = rounds workers n ++ range_with_len 0 workers

-- one round, and some rounds, of the walkers
abbrev pub StepsRound : SimulationData → SimulationData → Type 0
StepsRound old new = StepsAlong old (range_with_len 0 (length old.walkers)) new

abbrev pub StepsRounds : SimulationData → SimulationData → Type 0
StepsRounds old new = (turns : ℕ) × StepsAlong old (rounds (length old.walkers) turns) new
