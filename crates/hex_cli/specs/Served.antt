-- What is done for the words of a run, told of its devices. No clause of a public call cites this.
use Rattle.std.specs.Prelude.{ℕ, List}
use Rattle.hexd_args.specs.Reading.{WellFormed}
use Rattle.hexd_args.specs.declared.settings.Options.{Options}
use Rattle.turn_modes.specs.HandingIn.{IsTurnOf}
use Rattle.hex_devices.specs.Devices.{DevicesState}
use Rattle.hex_cli.specs.Modes.{AnswersBy, HandsInBy, kind_of}
use Rattle.hex_cli.specs.Playing.{HasGoodTurns}
use Rattle.hex_cli.specs.Runs.{IsUnarchived, IsUnfetched}
use Rattle.hex_cli.specs.WholeInputs.{IsTextOf}
use Rattle.hex_cli.specs.declared.kinds.ModeKind.{ModeKind}
use Rattle.hex_cli.specs.declared.kinds.ModeKind.TheVariants.{Session, WholeInput, OneTurn}
use Rattle.hex_devices.specs.declared.ends.End.{End}

-- what was done in a mode of this kind, to this end
abbrev pub ServesBy : ModeKind → Options → End → DevicesState → DevicesState → Type 0
ServesBy Session options = HasGoodTurns options
ServesBy (WholeInput mode) options = AnswersBy (IsTextOf mode)
ServesBy (OneTurn mode) options = HandsInBy (IsTurnOf mode) options

-- which devices were idle in a mode of this kind
abbrev pub IsIdleBy : ModeKind → DevicesState → DevicesState → Type 0
IsIdleBy Session old new = Unit {0}
IsIdleBy (WholeInput mode) old new = IsUnfetched old new × IsUnarchived old new
IsIdleBy (OneTurn mode) old new = IsUnfetched old new

-- what was done for the words, in the mode that they say
abbrev pub Serves : List (List ℕ) → End → DevicesState → DevicesState → Type 0
Serves words end old new = (options : Options) → WellFormed words options
    → ServesBy (kind_of options.mode options) options end old new

-- which devices were idle in the mode that the words say
abbrev pub LeavesIdle : List (List ℕ) → DevicesState → DevicesState → Type 0
LeavesIdle words old new = (options : Options) → WellFormed words options
    → IsIdleBy (kind_of options.mode options) old new
