-- What the devices of a run tell, and what a call did to their counts of faults.
use Rattle.std.specs.Prelude.{◌≡◌, ℕ, List, Option, Some, None, Result, Ok, Err}
use Rattle.hex_io.specs.Told.{Told}
use Rattle.hex_io.specs.Shelves.{Shelved}
use Rattle.hex_io.specs.Causes.{CountsFault}
use Rattle.hex_plan.specs.Turns.{TurnData}
use Rattle.hex_devices.specs.declared.stops.Stop.{Stop}
use Rattle.hex_devices.specs.declared.stops.Stop.TheVariants.{ReadFault, WriteFault, ArchiveFault}

-- What a link, a shelf and an archive tell, if they do, and their counts of faults. The names
-- are those of the three references, and stand still.
pub record DevicesState : Type 0 where
  pub link : Option Told
  pub read_faults : ℕ
  pub write_faults : ℕ
  pub shelf : Option Shelved
  pub fetch_faults : ℕ
  pub turns : Option (List TurnData)
  pub archive_faults : ℕ
  pub names : ℕ × ℕ × ℕ

-- what a shelf and an archive tell, if they do
abbrev pub ShelfAndArchive : Type 0
ShelfAndArchive = Option Shelved × Option (List TurnData)

-- what a link and an archive tell, if they do
abbrev pub LinkAndArchive : Type 0
LinkAndArchive = Option Told × Option (List TurnData)

-- what the shelf and the archive tell
abbrev pub shelf_and_archive : DevicesState → ShelfAndArchive
shelf_and_archive devices = (devices.shelf, devices.turns)

-- what the link and the archive tell
abbrev pub link_and_archive : DevicesState → LinkAndArchive
link_and_archive devices = (devices.link, devices.turns)

-- how what gives nothing back ended: it came to its end, or stopped for a reason
abbrev pub Outcome : Type 0
Outcome = Result (Unit {0}) Stop

-- why a call stopped, if it did
abbrev pub stop_of : {T : Type 0} → Result T Stop → Option Stop
stop_of (Ok value) = None
stop_of (Err stop) = Some stop

-- the same, if its errors are told as these stops
abbrev pub stop_as : {T E : Type 0} → (E → Stop) → Result T E → Option Stop
stop_as stop_for (Ok value) = None
stop_as stop_for (Err error) = Some (stop_for error)

-- each count of faults rose with its own stop, and is as before with every other answer
pub record CountsStop (old new : DevicesState) (stop : Option Stop) : Type 0 where
  pub reads : CountsFault old.read_faults new.read_faults (stop ≡ Some ReadFault)
  pub writes : CountsFault old.write_faults new.write_faults (stop ≡ Some WriteFault)
  pub archives : CountsFault old.archive_faults new.archive_faults (stop ≡ Some ArchiveFault)
  pub names : new.names ≡ old.names

-- the same of a call that answers so
abbrev pub CountsFaults : {T : Type 0} → DevicesState → DevicesState → Result T Stop → Type 0
CountsFaults old new result = CountsStop old new (stop_of result)

-- the same of a call that answers so, if its errors are told as these stops
abbrev pub CountsAs : {T E : Type 0} → (E → Stop) → DevicesState → DevicesState → Result T E
    → Type 0
CountsAs stop_for old new result = CountsStop old new (stop_as stop_for result)

-- the same of a call whose one refusal is told as this stop
abbrev pub CountsOnly : {T E : Type 0} → Stop → DevicesState → DevicesState → Result T E → Type 0
CountsOnly stop old new (Ok value) = CountsStop old new None
CountsOnly stop old new (Err fault) = CountsStop old new (Some stop)
