-- Which stop a run ends with that ends with the error of a call.
use Rattle.hex_devices.specs.declared.errors.AnswerError.{AnswerError}
use Rattle.hex_devices.specs.declared.errors.AnswerError.TheVariants as answer
use Rattle.hex_devices.specs.declared.errors.InputError.{InputError}
use Rattle.hex_devices.specs.declared.errors.InputError.TheVariants as input
use Rattle.hex_devices.specs.declared.errors.OutputError.{OutputError}
use Rattle.hex_devices.specs.declared.errors.OutputError.TheVariants as output
use Rattle.hex_devices.specs.declared.faults.HandingFault.{HandingFault}
use Rattle.hex_devices.specs.declared.faults.HandingFault.TheVariants as handing
use Rattle.hex_devices.specs.declared.stops.Stop.{Stop}
use Rattle.hex_devices.specs.declared.stops.Stop.TheVariants as stop

-- of a whole input that was not taken
abbrev pub stop_of_input : InputError → Stop
stop_of_input input.Read = stop.ReadFault
stop_of_input input.TooLong = stop.TooLong
stop_of_input input.Memory = stop.Memory

-- of one that was not answered
abbrev pub stop_of_answer : AnswerError → Stop
stop_of_answer (answer.Input error) = stop_of_input error
stop_of_answer answer.Memory = stop.Memory
stop_of_answer answer.Write = stop.WriteFault

-- of what was owed and not given
abbrev pub stop_of_output : OutputError → Stop
stop_of_output output.Memory = stop.Memory
stop_of_output output.Archive = stop.ArchiveFault
stop_of_output output.Write = stop.WriteFault

-- why the text of a turn was not given that was not handed over with it
abbrev pub output_of_handing : HandingFault → OutputError
output_of_handing handing.Archive = output.Archive
output_of_handing handing.Write = output.Write
