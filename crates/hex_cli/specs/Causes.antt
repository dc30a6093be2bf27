-- Why a run ends so, told of its status and its devices. Which count of faults rose says
-- `CountsFault` of hex_io.
use Rattle.std.specs.Prelude.{◌≡◌, ◌+◌, ◌≤◌, ◌⊎◌, ◌↔◌, length}
use Rattle.hex_io.specs.Told.{Both}
use Rattle.hex_io.specs.Causes.{Rose}
use Rattle.hexd_args.specs.Reading.{WellFormed}
use Rattle.hexd_args.specs.declared.settings.Options.{Options}
use Rattle.htp_session.specs.Endings.{since}
use Rattle.hex_devices.specs.declared.stops.Stop.TheVariants.{Memory, TooLong}
use Rattle.hex_devices.specs.Devices.{DevicesState}
use Rattle.hex_devices.specs.Statuses.{HasStopped, status_of}
use Rattle.hex_devices.specs.declared.ends.End.TheVariants.{Done, Rejected}
use Rattle.hex_cli.specs.Runs.{RunData}
use Rattle.hex_io.specs.declared.limits.TheConstants.{INPUT_LIMIT}

-- with well-formed words the input is too long exactly if one byte more than the limit was taken
abbrev pub IsTooLong : RunData → Type 0
IsTooLong run = (options : Options) → WellFormed run.words options
    → Both run.before.link run.after.link (λ old new.
    HasStopped run.status TooLong ↔ (length (since old new) ≡ INPUT_LIMIT + 1))

-- no count of faults rose of the link's reads and writes and the archive
pub record MetNoFault (old new : DevicesState) : Type 0 where
  pub reads : ¬ Rose old.read_faults new.read_faults
  pub writes : ¬ Rose old.write_faults new.write_faults
  pub archives : ¬ Rose old.archive_faults new.archive_faults

-- with well-formed words, if no count of faults rose and at most the limit was taken, the run is
-- done, its input is rejected, or memory ran out
abbrev pub Completes : RunData → Type 0
Completes run = (options : Options) → WellFormed run.words options
    → MetNoFault run.before run.after
    → Both run.before.link run.after.link (λ old new. length (since old new) ≤ INPUT_LIMIT
    → (run.status ≡ status_of Done) ⊎ (run.status ≡ status_of Rejected)
    ⊎ HasStopped run.status Memory)
