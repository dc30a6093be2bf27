-- What follows of what was done in any mode, by its kind.
use Rattle.std.proofs.Common.{refl, ◌≡◌, ◌≢◌}
use Rattle.std.proofs.Common.{sym, ◌∙◌, subst}
use Rattle.hex_io.specs.Told.{Both}
use Rattle.turn_modes.specs.HandingIn.{IsTurnOf}
use Rattle.hex_devices.specs.Devices.{DevicesState, link_and_archive}
use Rattle.hex_devices.specs.declared.stops.Stop.TheVariants.{ReadFault, WriteFault, ArchiveFault}
use Rattle.hexd_args.specs.declared.settings.Options.{Options}
use Rattle.hex_cli.specs.Modes.{engine_options, mode_options}
use Rattle.hex_cli.specs.Runs.{IsUnarchived, IsUnfetched}
use Rattle.hex_cli.specs.Served.{IsIdleBy, ServesBy}
use Rattle.hex_cli.specs.WholeInputs.{IsTextOf}
use Rattle.hex_cli.specs.declared.kinds.ModeKind.{ModeKind}
use Rattle.hex_cli.specs.declared.kinds.ModeKind.TheVariants.{Session, WholeInput, OneTurn}
use Rattle.hex_cli.specs.declared.whole_inputs.InputMode.{InputMode}
use Rattle.hex_devices.specs.declared.ends.End.{End}
use Rattle.hex_devices.specs.declared.ends.End.TheVariants.{Usage, Stopped}
use Rattle.hex_io.specs.declared.limits.TheConstants.{INPUT_LIMIT}
use Rattle.hex_cli.proofs.InputEnds.{IsComplete, IsLong}
use Rattle.hex_cli.proofs.InputEnds.{input_complete, input_no_usage, input_too_long}
use Rattle.hex_cli.proofs.RunLaws.{outcome_no_usage, session_complete, session_too_long}
use Rattle.hex_cli.proofs.HandedTurns.{handed_complete, handed_no_usage, handed_too_long}

-- ---- no mode ends with a usage

pub does_no_usage : (kind : ModeKind) (options : Options) (end : End) (old new : DevicesState)
    → ServesBy kind options end old new → end ≢ Usage
does_no_usage Session options end old new d e = outcome_no_usage d.1.0 (sym d.1.1 ∙ e)
does_no_usage (WholeInput mode) options end old new d e = input_no_usage d.0 (sym d.1 ∙ e)
does_no_usage (OneTurn mode) options end old new d e = handed_no_usage d.0 (sym d.1 ∙ e)

-- ---- the input is too long exactly if one byte more than the limit was taken

pub does_too_long : (kind : ModeKind) (options : Options) (end : End) (old new : DevicesState)
    → ServesBy kind options end old new → Both old.link new.link (IsLong INPUT_LIMIT end)
does_too_long Session options end old new d =
    subst (λ (x : End). Both old.link new.link (IsLong INPUT_LIMIT x)) (sym d.1.1)
    (session_too_long d.1.0 (engine_options options) options.size INPUT_LIMIT d.0 _ _
    old.link new.link d.1.2)
does_too_long (WholeInput mode) options end old new d =
    subst (λ (x : End). Both old.link new.link (IsLong INPUT_LIMIT x)) (sym d.1)
    (input_too_long (IsTextOf mode) INPUT_LIMIT old.link new.link d.0 d.2)
does_too_long (OneTurn mode) options end old new d =
    subst (λ (x : End). Both old.link new.link (IsLong INPUT_LIMIT x)) (sym d.1)
    (handed_too_long (IsTurnOf mode (mode_options options)) INPUT_LIMIT
    (link_and_archive old) (link_and_archive new) d.0 d.2)

-- ---- without a fault and within the limit the run is done, its input is rejected, or memory ran
-- out

pub record IsFaultless (end : End) : Type 0 where
  pub read : end ≢ Stopped ReadFault
  pub write : end ≢ Stopped WriteFault
  pub archive : end ≢ Stopped ArchiveFault

pub does_complete : (kind : ModeKind) (options : Options) (end : End) (old new : DevicesState)
    → ServesBy kind options end old new → IsFaultless end
    → Both old.link new.link (IsComplete INPUT_LIMIT end)
does_complete Session options end old new d f =
    subst (λ (x : End). Both old.link new.link (IsComplete INPUT_LIMIT x)) (sym d.1.1)
    (session_complete d.1.0 (engine_options options) options.size INPUT_LIMIT d.0 _ _
    old.link new.link d.1.2
    (λ e. f.read (d.1.1 ∙ e)) (λ e. f.write (d.1.1 ∙ e)) (λ e. f.archive (d.1.1 ∙ e)))
does_complete (WholeInput mode) options end old new d f =
    subst (λ (x : End). Both old.link new.link (IsComplete INPUT_LIMIT x)) (sym d.1)
    (input_complete (IsTextOf mode) INPUT_LIMIT old.link new.link d.0 d.2
    (λ e. f.read (d.1 ∙ e)) (λ e. f.write (d.1 ∙ e)))
does_complete (OneTurn mode) options end old new d f =
    subst (λ (x : End). Both old.link new.link (IsComplete INPUT_LIMIT x)) (sym d.1)
    (handed_complete (IsTurnOf mode (mode_options options)) INPUT_LIMIT
    (link_and_archive old) (link_and_archive new) d.0 d.2
    (λ e. f.write (d.1 ∙ e)) (λ e. f.archive (d.1 ∙ e)))

-- ---- what stands idle

pub idle_unfetched : (kind : ModeKind) (old new : DevicesState) → IsIdleBy kind old new
    → kind ≢ Session → IsUnfetched old new
idle_unfetched Session old new d idle = absurd (idle refl)
idle_unfetched (WholeInput mode) old new d idle = d.0
idle_unfetched (OneTurn mode) old new d idle = d

pub idle_unarchived : (kind : ModeKind) (mode : InputMode) (old new : DevicesState)
    → IsIdleBy kind old new → kind ≡ WholeInput mode → IsUnarchived old new
idle_unarchived kind mode old new d whole =
    (subst (λ k. IsIdleBy k old new) whole d).1
