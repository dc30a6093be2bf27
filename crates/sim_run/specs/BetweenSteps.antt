-- What stands between two steps of a simulation.
use Rattle.std.specs.Prelude.{◌≡◌, ℕ, ◌+◌, ◌-◌, ◌*◌, ◌<◌, List, ◌++◌, length, sum_by}
use Rattle.std.specs.List.{All, AllZip}
use Rattle.tree_words.specs.Settings.{Setting}
use Rattle.tree_words.specs.Words.{ticket_in}
use Rattle.tree_words.specs.Opening.{opening_words}
use Rattle.arena_rule.specs.Views.{SeatView, HasDrawnNothing}
use Rattle.arena_rule.specs.IsView.{IsView}
use Rattle.arena_rule.specs.Rule.{Rule}
use Rattle.walker.specs.Belongs.{Belongs}
use Rattle.walker.specs.Measure.{steps_left}
use Rattle.walker.specs.declared.machine.TheConstants.{WALK_STEPS}
use Rattle.walker.specs.declared.machine.Walker.{Walker}
use Rattle.sim_run.specs.declared.simulation.Simulation.{Simulation}
use Rattle.sim_run.specs.Steps.{SimulationData, data_of, IsFinished, StepsAlong, rounds}

-- The words and the walkers are those of a simulation: there is a view for each walker, which
-- belongs to it, and the arena rule holds of the words with these views.
pub record AreSimulated (s : Setting) (words : List ℕ) (walkers : List Walker) : Type 0 where
  pub views : List SeatView
  pub rule : Rule s words views
  pub belong : AllZip Belongs walkers views

-- so it is with a simulation between two steps
abbrev pub IsUnderway : Simulation → Type 0
IsUnderway r = AreSimulated r.shape r.words.items r.walkers.items

-- each view of the shape that is in order, stands for one worker and has drawn nothing belongs to
-- the walker
abbrev pub IsNew : Setting → Walker → Type 0
IsNew s w = (v : SeatView)
    → v.shape ≡ s → v.width ≡ 1 → HasDrawnNothing v → IsView v → Belongs w v

-- a new walker for each worker of the shape
pub record AreNew (s : Setting) (walkers : List Walker) : Type 0 where
  pub count : length walkers ≡ s.knobs.workers
  pub each : All (IsNew s) walkers

-- no walker has a step left
abbrev pub AreFinished : List Walker → Type 0
AreFinished walkers = All IsFinished walkers

-- the steps that are left at most: those of the walks in hand, and for each draw that is left the
-- draw and its walk. A worker draws once for nothing.
abbrev pub steps_to_come : Setting → SimulationData → ℕ
steps_to_come s r =
    (1 + WALK_STEPS) * (s.knobs.playouts + s.knobs.workers - ticket_in r.words)
    + sum_by steps_left r.walkers

-- there is less to come in the new simulation, which is of the shape of the old one
abbrev pub HasFewer : Simulation → Simulation → Type 0
HasFewer old new =
    steps_to_come old.shape (data_of new) < steps_to_come old.shape (data_of old)

-- The words are those at the end of the schedule: from the opening words and new walkers on, its
-- entries are one step each, and then come so many rounds that no walker has a step left.
pub record EndsSchedule (s : Setting) (schedule words : List ℕ) : Type 0 where
  pub begun : List Walker
  pub new : AreNew s begun
  pub turns : ℕ
  pub ended : List Walker
  pub along : StepsAlong (record { words = opening_words s; walkers = begun })
      (schedule ++ rounds s.knobs.workers turns) (record { words = words; walkers = ended })
  pub finished : AreFinished ended
