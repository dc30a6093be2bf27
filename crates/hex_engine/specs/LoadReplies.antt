-- What `loadsgf` does.
use Rattle.std.specs.Prelude.{ℕ, List, [], ◌∷◌, Option, Some, None, Result, Err, if◌then◌else◌}
use Rattle.std.specs.Str.{bytes_eq, is_utf8}
use Rattle.hex_engine.specs.EngineState.{EngineState}
use Rattle.hex_engine.specs.Replies.{Done, Failed, Reaction, Turned, Missing, NoLoad}
use Rattle.hex_engine.specs.Replies.{unchanged, unused}
use Rattle.hex_engine.specs.Supply.{Load, Supply}
use Rattle.hex_engine.specs.declared.answers.Fail.TheVariants.{Syntax, ReadFault}
use Rattle.hex_engine.specs.declared.answers.Fail.TheVariants as fail
use Rattle.hex_engine.specs.declared.loadsgf.Loaded.{Loaded}
use Rattle.hex_engine.specs.declared.loadsgf.Loaded.TheVariants.{Unread, Refused, Loads}

-- what stands after a file came to this
abbrev pub loaded : EngineState → Loaded → Reaction
loaded engine Unread = unchanged engine (Failed ReadFault)
loaded engine Refused = unchanged engine (Failed fail.NoLoad)
loaded engine (Loads game) =
    record { reply = Done []; after = record engine { game = game } }

-- the next load is used up, which has to be of this name
abbrev pub loading_next : EngineState → Supply → List Load → List ℕ → Result Turned Missing
loading_next engine left [] name = Err NoLoad
loading_next engine left (load ∷ loads) name =
    if bytes_eq load.name name then
    unused (record left { loads = loads }) (loaded engine load.what) else Err NoLoad

-- the file's name, if it is the only argument and valid UTF-8
abbrev pub file_named : List (List ℕ) → Option (List ℕ)
file_named [] = None
file_named (name ∷ []) = if is_utf8 name then Some name else None
file_named (name ∷ word ∷ words) = None

-- what `loadsgf` does with a file's name, if there is one
abbrev pub loading_by : EngineState → Supply → Option (List ℕ) → Result Turned Missing
loading_by engine left None = unused left (unchanged engine (Failed Syntax))
loading_by engine left (Some name) = loading_next engine left left.loads name

-- what `loadsgf` does with its arguments
abbrev pub loading : EngineState → Supply → List (List ℕ) → Result Turned Missing
loading engine left args = loading_by engine left (file_named args)
