-- What the engine's own calls do. Only clauses of private calls cite it.
use Rattle.std.specs.Prelude.{◌≡◌, ◌≤◌, ℕ, Bool, true, List, [], ◌∷◌, ◌++◌, length, Option}
use Rattle.hex_cells.specs.declared.colours.Colour.{Colour}
use Rattle.hex_io.specs.Shelves.{Shelved}
use Rattle.hex_io.specs.Told.{Both}
use Rattle.hex_plan.specs.Good.{IsGood}
use Rattle.hex_plan.specs.Turns.{TurnData}
use Rattle.hex_engine.specs.EngineState.{EngineState}
use Rattle.hex_engine.specs.LoadReplies.{loading}
use Rattle.hex_engine.specs.MoveReplies.{is_next, moving, turned}
use Rattle.hex_engine.specs.Requests.{Reacts, ReactsWith}
use Rattle.hex_engine.specs.Supply.{Load, nothing_left, loads_only, turns_only}
use Rattle.hex_engine.specs.Uses.{Loading, Moving}
use Rattle.hex_engine.specs.declared.answers.Answer.{Answer}

-- one fetch at most was tried, which came to nothing
abbrev pub FetchesInVain : Option Shelved → Option Shelved → Type 0
FetchesInVain shelf shelf_now = (tries : List Bool) × (length tries ≤ 1)
    × Loading shelf shelf_now nothing_left tries

-- `loadsgf` with these arguments was answered so: these loads came of the shelf, and the answer,
-- with what stands after it, is what `loadsgf` does with them
abbrev pub AnswersLoad : EngineState → List (List ℕ) → Option Shelved → Option Shelved → Answer
    → EngineState → Type 0
AnswersLoad engine args shelf shelf_now answer after = (loads : List Load)
    × Loading shelf shelf_now (loads_only loads) []
    × ReactsWith (λ left. loading engine left args) (loads_only loads) answer after

-- `genmove` with these arguments was answered so: the archive took these turns, which are good, and
-- the answer, with what stands after it, is what `genmove` does with them
abbrev pub AnswersMove : EngineState → List (List ℕ) → Option (List TurnData)
    → Option (List TurnData) → Answer → EngineState → Type 0
AnswersMove engine args archive archive_now answer after = (turns : List TurnData)
    × Moving engine.options archive archive_now (turns_only turns)
    × ReactsWith (λ left. moving engine left args) (turns_only turns) answer after

-- the archive took a good turn that is next, and its cell was played and answered
abbrev pub TakesNext : EngineState → Colour → Option (List TurnData) → Option (List TurnData)
    → Answer → EngineState → Type 0
TakesNext engine colour archive archive_now answer after = (turn : TurnData)
    × IsGood engine.options.knobs engine.options.means turn
    × (is_next engine colour turn ≡ true)
    × Both archive archive_now (λ o n. n ≡ o ++ turn ∷ [])
    × Reacts (turned engine colour turn) answer after
