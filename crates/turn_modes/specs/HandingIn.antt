-- What modes sim and bench do with the turn and its text.
use Rattle.std.specs.Prelude.{◌≡◌, List, [], ◌∷◌, ◌++◌, ℕ, Result, Ok, Err}
use Rattle.hex_io.specs.Grew.{Gave, GaveProperPart}
use Rattle.hex_io.specs.Told.{Both, Same}
use Rattle.hex_plan.specs.Turns.{TurnData}
use Rattle.hex_devices.specs.Devices.{LinkAndArchive}
use Rattle.hex_devices.specs.declared.errors.OutputError.{OutputError}
use Rattle.hex_devices.specs.declared.errors.OutputError.TheVariants.{Memory, Archive, Write}
use Rattle.turn_modes.specs.OneTurn.{FollowsSchedule, IsSimulation, IsBenchmark}
use Rattle.turn_modes.specs.declared.modes.TurnMode.{TurnMode}
use Rattle.turn_modes.specs.declared.modes.TurnMode.TheVariants.{Sim, Bench}
use Rattle.turn_modes.specs.declared.options.ModeOptions.{ModeOptions}

-- A turn with its text was handed over: the archive took the turn, and then the text was given, or
-- at a write fault a prefix of it that is not all of it. At an archive fault or out of memory
-- the archive has the same turns and nothing was given. Nothing was read.
abbrev pub HandsIn : (TurnData → List ℕ → Type 0) → LinkAndArchive → LinkAndArchive
    → Result (Unit {0}) OutputError → Type 0
HandsIn Says old new (Ok done) =
    (turn : TurnData) × (text : List ℕ) × Says turn text × Gave old.0 new.0 text
    × Both old.1 new.1 (λ before now. now ≡ before ++ turn ∷ [])
HandsIn Says old new (Err Memory) = (new.0 ≡ old.0) × Same old.1 new.1
HandsIn Says old new (Err Archive) = (new.0 ≡ old.0) × Same old.1 new.1
HandsIn Says old new (Err Write) =
    (turn : TurnData) × (text : List ℕ) × Says turn text × GaveProperPart old.0 new.0 text
    × Both old.1 new.1 (λ before now. now ≡ before ++ turn ∷ [])

-- the turn and the text that a mode hands in: in sim those of a simulation whose tree is that of
-- its schedule, in bench those of a benchmark
abbrev pub IsTurnOf : TurnMode → ModeOptions → TurnData → List ℕ → Type 0
IsTurnOf Sim o turn text = IsSimulation o turn text × FollowsSchedule o turn
IsTurnOf Bench o turn text = IsBenchmark o turn text
