-- A turn that was handed over with its text.
use Rattle.std.proofs.Common.{◌≡◌, ℕ, List, Option, Ok, Err, Result}
use Rattle.hex_io.specs.Told.{Told}
use Rattle.hex_plan.specs.Turns.{TurnData}
use Rattle.hex_devices.specs.Devices.{LinkAndArchive}
use Rattle.hex_devices.specs.Errors.{output_of_handing}
use Rattle.hex_devices.specs.Handing.{HandsOver}
use Rattle.hex_devices.specs.declared.errors.OutputError.{OutputError}
use Rattle.hex_devices.specs.declared.errors.OutputError.TheVariants as output
use Rattle.hex_devices.specs.declared.faults.HandingFault.{HandingFault}
use Rattle.hex_devices.specs.declared.faults.HandingFault.TheVariants.{Archive, Write}
use Rattle.turn_modes.specs.HandingIn.{HandsIn}

-- how a mode ends that handed over its turn so
abbrev pub outcome_of : Result (Unit {0}) HandingFault → Result (Unit {0}) OutputError
outcome_of (Ok done) = Ok done
outcome_of (Err fault) = Err (output_of_handing fault)

handed : (Says : TurnData → List ℕ → Type 0) (old new : LinkAndArchive) (turn : TurnData)
    (text : List ℕ) (result : Result (Unit {0}) HandingFault) → Says turn text
    → HandsOver old new turn text result → HandsIn Says old new (outcome_of result)
handed Says old new turn text (Ok done) a h = (turn, text, a, h.0, h.1)
handed Says old new turn text (Err Archive) a h = h
handed Says old new turn text (Err Write) a h = (turn, text, a, h.0, h.1)

-- the same, if the link and the archive tell what devices tell
pub handed_as : (Says : TurnData → List ℕ → Type 0) (x y link link_now : Option Told)
    (a b turns turns_now : Option (List TurnData)) (turn : TurnData) (text : List ℕ)
    (result : Result (Unit {0}) HandingFault)
    → x ≡ link → a ≡ turns → y ≡ link_now → b ≡ turns_now → Says turn text
    → HandsOver (x, a) (y, b) turn text result
    → HandsIn Says (link, turns) (link_now, turns_now) (outcome_of result)
handed_as Says x y link link_now a b turns turns_now turn text result p q r s says h
    = rw (← p, ← q, ← r, ← s) (handed Says (x, a) (y, b) turn text result says h)

-- what holds of the turn and its text holds less
pub hands_less : (Says Less : TurnData → List ℕ → Type 0) (old new : LinkAndArchive)
    (outcome : Result (Unit {0}) OutputError)
    → ((turn : TurnData) (text : List ℕ) → Says turn text → Less turn text)
    → HandsIn Says old new outcome → HandsIn Less old new outcome
hands_less Says Less old new (Ok done) less h = (h.0, h.1, less h.0 h.1 h.2, h.3, h.4)
hands_less Says Less old new (Err output.Memory) less h = h
hands_less Says Less old new (Err output.Archive) less h = h
hands_less Says Less old new (Err output.Write) less h = (h.0, h.1, less h.0 h.1 h.2, h.3, h.4)
