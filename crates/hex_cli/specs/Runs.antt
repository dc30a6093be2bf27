-- What a run does, told of its words, its status, and its devices before and after.
use Rattle.std.specs.Prelude.{◌≡◌, ◌≢◌, ℕ, List}
use Rattle.hexd_args.specs.Reading.{WellFormed}
use Rattle.hexd_args.specs.declared.settings.Options.{Options}
use Rattle.hexd_args.specs.declared.settings.Mode.{Mode}
use Rattle.hex_devices.specs.Devices.{DevicesState}
use Rattle.hex_devices.specs.Statuses.{status_of}
use Rattle.hex_devices.specs.declared.ends.End.{End}
use Rattle.hex_cli.specs.Modes.{kind_of}
use Rattle.hex_cli.specs.declared.kinds.ModeKind.TheVariants.{Session, WholeInput}
use Rattle.hex_cli.specs.declared.whole_inputs.InputMode.{InputMode}

-- ---- the modes

-- what is seen of a run: its words, its status, and what its devices tell before and after
pub record RunData : Type 0 where
  pub words : List (List ℕ)
  pub status : ℕ
  pub before : DevicesState
  pub after : DevicesState

-- the run that is seen so
abbrev pub seen : List (List ℕ) → ℕ → DevicesState → DevicesState → RunData
seen words status old new =
    record { words = words; status = status; before = old; after = new }

-- If the words say this mode, the run did this by their options, to the end that has its status.
abbrev pub InMode : Mode → (Options → End → DevicesState → DevicesState → Type 0) → RunData
    → Type 0
InMode mode Does run = (options : Options) → WellFormed run.words options → options.mode ≡ mode
    → (end : End) → run.status ≡ status_of end → Does options end run.before run.after

-- ---- what is left as it was

-- nothing was fetched from the shelf: it tells the same and has counted no fault
pub record IsUnfetched (old new : DevicesState) : Type 0 where
  pub shelf : new.shelf ≡ old.shelf
  pub fetches : new.fetch_faults ≡ old.fetch_faults

-- nothing was handed to the archive: it tells the same and has counted no fault
pub record IsUnarchived (old new : DevicesState) : Type 0 where
  pub turns : new.turns ≡ old.turns
  pub archives : new.archive_faults ≡ old.archive_faults

-- the shelf is idle in each mode that is no session
abbrev pub HasIdleShelf : List (List ℕ) → DevicesState → DevicesState → Type 0
HasIdleShelf words old new = (options : Options) → WellFormed words options
    → kind_of options.mode options ≢ Session → IsUnfetched old new

-- the archive is idle in each mode that takes its whole input
abbrev pub HasIdleArchive : List (List ℕ) → DevicesState → DevicesState → Type 0
HasIdleArchive words old new = (options : Options) (mode : InputMode) → WellFormed words options
    → kind_of options.mode options ≡ WholeInput mode → IsUnarchived old new
