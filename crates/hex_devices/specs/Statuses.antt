-- How a run ends: its status, and the line that it gives to the errors.
use Rattle.std.specs.Prelude.{◌≡◌, ◌⊎◌, Bool, true, false, ℕ, List, [], Result, Ok, Err, codes}
use Rattle.std.specs.Prelude.{Option, Some, None}
use Rattle.hex_io.specs.Reported.{Reported}
use Rattle.hex_io.specs.declared.links.Link as links
use Rattle.hex_devices.specs.Devices.{Outcome}
use Rattle.hex_devices.specs.Errors.{stop_of_answer, stop_of_output}
use Rattle.hex_devices.specs.declared.errors.AnswerError.{AnswerError}
use Rattle.hex_devices.specs.declared.errors.OutputError.{OutputError}
use Rattle.hex_devices.specs.declared.stops.Stop.{Stop}
use Rattle.hex_devices.specs.declared.stops.Stop.TheVariants.{ReadFault, WriteFault, Memory}
use Rattle.hex_devices.specs.declared.stops.Stop.TheVariants.{TooLong, ArchiveFault}
use Rattle.hex_devices.specs.declared.ends.End.{End}
use Rattle.hex_devices.specs.declared.ends.End.TheVariants.{Done, Rejected, Usage, Stopped}

-- how a run ends whose session ended so
abbrev pub end_of_outcome : Outcome → End
end_of_outcome (Ok done) = Done
end_of_outcome (Err stop) = Stopped stop

-- how a program ends that can't have its arguments: one is no text, or memory ran out
abbrev pub EndsWithoutArguments : End → Type 0
EndsWithoutArguments end = (end ≡ Usage) ⊎ (end ≡ Stopped Memory)

-- how a run ends that answered its whole input, accepted or not, or stopped before
abbrev pub end_of_answer : Result Bool AnswerError → End
end_of_answer (Ok true) = Done
end_of_answer (Ok false) = Rejected
end_of_answer (Err error) = Stopped (stop_of_answer error)

-- how a run ends that gave what it owes, or stopped before
abbrev pub end_of_output : Result (Unit {0}) OutputError → End
end_of_output (Ok done) = Done
end_of_output (Err error) = Stopped (stop_of_output error)

-- why a run stopped before its end, if it did
abbrev pub stop_in : End → Option Stop
stop_in Done = None
stop_in Rejected = None
stop_in Usage = None
stop_in (Stopped stop) = Some stop

-- the status of a run that ends so
abbrev pub status_of : End → ℕ
status_of Done = 0
status_of Rejected = 1
status_of Usage = 2
status_of (Stopped ReadFault) = 3
status_of (Stopped WriteFault) = 4
status_of (Stopped Memory) = 5
status_of (Stopped TooLong) = 6
status_of (Stopped ArchiveFault) = 7

-- the status of a run that stopped for this
abbrev pub HasStopped : ℕ → Stop → Type 0
HasStopped status stop = status ≡ status_of (Stopped stop)

-- the one line that an end gives to the errors
abbrev pub error_line : End → List ℕ
error_line Done = []
error_line Rejected = []
error_line Usage = codes "hexd: usage\n"
error_line (Stopped ReadFault) = codes "hexd: read fault\n"
error_line (Stopped WriteFault) = []
error_line (Stopped Memory) = codes "hexd: out of memory\n"
error_line (Stopped TooLong) = codes "hexd: input too long\n"
error_line (Stopped ArchiveFault) = codes "hexd: archive fault\n"

-- the errors were given the line of the status, or a prefix of it if a write failed
abbrev pub Reports : {E : Type 0} → links.Ghosts E → ℕ → E → E → Type 0
Reports e status old new = (end : End) → status ≡ status_of end
    → Reported (e.told old) (e.told new) (e.write_faults old) (e.write_faults new) (error_line end)
