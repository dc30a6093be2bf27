-- A turn that is handed to an archive, and its text that is given to a link.
use Rattle.std.specs.Prelude.{◌≡◌, ℕ, List, [], ◌∷◌, ◌++◌, Option, Result, Ok, Err}
use Rattle.hex_io.specs.Grew.{Gave, GaveProperPart}
use Rattle.hex_io.specs.Told.{Both, Same}
use Rattle.hex_plan.specs.Turns.{TurnData}
use Rattle.hex_devices.specs.Devices.{LinkAndArchive}
use Rattle.hex_devices.specs.declared.faults.HandingFault.{HandingFault}
use Rattle.hex_devices.specs.declared.faults.HandingFault.TheVariants.{Archive, Write}

-- if the archive tells, it has exactly this turn more, at the end
abbrev pub TookTurn : TurnData → Option (List TurnData) → Option (List TurnData) → Type 0
TookTurn turn old new = Both old new (λ before now. now ≡ before ++ turn ∷ [])

-- The turn was taken and then its text given, or at a write fault a prefix of it that is not all of
-- it. If the archive failed, it has the same turns, and nothing was given. Nothing was read.
abbrev pub HandsOver : LinkAndArchive → LinkAndArchive → TurnData → List ℕ
    → Result (Unit {0}) HandingFault → Type 0
HandsOver old new turn text (Ok done) = Gave old.0 new.0 text × TookTurn turn old.1 new.1
HandsOver old new turn text (Err Archive) = (new.0 ≡ old.0) × Same old.1 new.1
HandsOver old new turn text (Err Write) =
    GaveProperPart old.0 new.0 text × TookTurn turn old.1 new.1
