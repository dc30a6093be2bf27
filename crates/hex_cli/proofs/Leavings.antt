-- What was done over the devices of a run, told of its status.
use Rattle.std.proofs.Common.{List, Ok, ◌≡◌, ℕ, ◌+◌, ◌≤◌, ◌⊎◌, length, sym, ◌∙◌, subst}
use Rattle.std.specs.Prelude.{◌↔◌}
use Rattle.hex_io.specs.Told.{Both}
use Rattle.hex_io.proofs.BothLaws.{Both-weaker}
use Rattle.hex_devices.specs.Devices.{DevicesState, link_and_archive, shelf_and_archive}
use Rattle.htp_session.specs.Endings.{Conversed, since}
use Rattle.hexd_args.specs.declared.settings.Mode.{Mode}
use Rattle.hexd_args.specs.declared.settings.Options.{Options}
use Rattle.hex_engine.specs.Supply.{Supply}
use Rattle.hex_cli.specs.Determined.{Determines}
use Rattle.hex_cli.specs.Headline.{HasHeadline}
use Rattle.hex_cli.specs.Modes.{HandsInBy, PlaysBy, engine_options, kind_of, mode_options}
use Rattle.hex_cli.specs.Playing.{HasGoodTurns, HasKnownThreats, HasPlayed}
use Rattle.hex_cli.specs.Runs.{InMode, seen}
use Rattle.hex_cli.specs.Served.{Serves, ServesBy}
use Rattle.hex_cli.specs.declared.kinds.ModeKind.{ModeKind}
use Rattle.turn_modes.specs.HandingIn.{IsTurnOf}
use Rattle.turn_modes.specs.OneTurn.{IsSimulation}
use Rattle.turn_modes.specs.declared.modes.TurnMode.TheVariants as turn
use Rattle.turn_modes.proofs.Handed.{hands_less}
use Rattle.hex_devices.specs.Statuses.{status_of}
use Rattle.hex_devices.specs.declared.ends.End.{End}
use Rattle.hex_devices.specs.declared.ends.End.TheVariants.{Done}
use Rattle.hex_devices.proofs.StatusLaws.{same_end}
use Rattle.hex_io.specs.declared.limits.TheConstants.{INPUT_LIMIT}
use Rattle.hex_cli.proofs.DeterminedLaws.{determined_at}
use Rattle.hex_cli.proofs.GeneratedMoves.{is_done, moves_at, threats_at}
use Rattle.hex_cli.proofs.Doings.{IsFaultless, does_complete, does_too_long}
use Rattle.hex_cli.proofs.InputEnds.{IsComplete, IsLong}
use Rattle.hex_cli.proofs.RunLaws.{done_outcome}

-- ---- what stands of a session

pub played : (old new : DevicesState) (options : Options) (end : End)
    → HasGoodTurns options end old new → HasPlayed options end old new
played old new options end d = (d.0, d.1)

pub known_threats : (old new : DevicesState) (options : Options) (end : End)
    → HasGoodTurns options end old new → HasKnownThreats options end old new
known_threats old new options end d =
    (d.0, d.1, threats_at (engine_options options) d.0.turns d.2)

told_where : (options : Options) (end : End) (used : Supply) (old new : DevicesState)
    → PlaysBy used options end old new → Both old.link new.link (λ o n. Unit {0})
told_where options end used old new d =
    Both-weaker old.link new.link _ _ (λ o n p. tt) d.2.outcome

-- what a session that is done has conversed
done_told : (options : Options) (end : End) (used : Supply) (old new : DevicesState)
    → PlaysBy used options end old new → end ≡ Done
    → Conversed (Ok tt) (engine_options options) options.size INPUT_LIMIT used
    (shelf_and_archive old) (shelf_and_archive new) old.link new.link
done_told options end used old new d e =
    subst (λ outcome. Conversed outcome (engine_options options) options.size INPUT_LIMIT used
    (shelf_and_archive old) (shelf_and_archive new) old.link new.link)
    (done_outcome d.0 (sym e ∙ d.1)) d.2

pub has_headline : (old new : DevicesState) (options : Options) (end : End)
    → HasGoodTurns options end old new → HasHeadline options end old new
has_headline old new options end d = λ e. (
  d.0,
  is_done (engine_options options) options.size d.0 old new
      (done_told options end d.0 old new d.1 e),
  moves_at (engine_options options) options.size d.0 old.link new.link
      (told_where options end d.0 old new d.1) d.2,
)

pub determines : (old new : DevicesState) (options : Options) (end : End)
    → HasGoodTurns options end old new → Determines options end old new
determines old new options end d = λ e.
    determined_at (engine_options options) options.size INPUT_LIMIT d.0
    old.shelf new.shelf old.turns new.turns old.link new.link
    (done_told options end d.0 old new d.1 e) d.2

-- ---- what stands of one turn

-- a simulation, of which it isn't said that its tree is that of its schedule
pub simulated : (old new : DevicesState) (options : Options) (end : End)
    → HandsInBy (IsTurnOf turn.Sim) options end old new
    → HandsInBy IsSimulation options end old new
simulated old new options end d = (
  d.0,
  d.1,
  hands_less (IsTurnOf turn.Sim (mode_options options)) (IsSimulation (mode_options options))
      (link_and_archive old) (link_and_archive new) d.0 (λ t text both. both.0) d.2,
)

-- ---- what was done in the mode of the words

-- what follows, in this mode, of what was done for the words
pub in_mode : (Clause : Options → End → DevicesState → DevicesState → Type 0) (mode : Mode)
    (words : List (List ℕ)) (status : ℕ) (end : End) (old new : DevicesState)
    → status ≡ status_of end → Serves words end old new
    → ((options : Options) (other : End)
    → ServesBy (kind_of mode options) options other old new → Clause options other old new)
    → InMode mode Clause (seen words status old new)
in_mode Clause mode words status end old new s does carry = λ options well_formed is other e.
    let same : end ≡ other = same_end end other (sym s ∙ e) in
    let done = subst (λ m. ServesBy (kind_of m options) options end old new) is
    (does options well_formed) in
    carry options other (subst (λ x. ServesBy (kind_of mode options) options x old new) same done)

pub long_as : (kind : ModeKind) (options : Options) (end : End) (status : ℕ)
    (old new : DevicesState) → status ≡ status_of end → ServesBy kind options end old new
    → Both old.link new.link
    (λ o n. (status ≡ 6) ↔ (length (since o n) ≡ INPUT_LIMIT + 1))
long_as kind options end status old new s d =
    let long : Both old.link new.link
    (IsLong INPUT_LIMIT end) = does_too_long kind options end old new d in
    rw s long

pub complete_as : (kind : ModeKind) (options : Options) (end : End) (status : ℕ)
    (old new : DevicesState) → status ≡ status_of end → ServesBy kind options end old new
    → IsFaultless end
    → Both old.link new.link (λ o n. length (since o n) ≤ INPUT_LIMIT
    → (status ≡ 0) ⊎ (status ≡ 1) ⊎ (status ≡ 5))
complete_as kind options end status old new s d f =
    let complete : Both old.link new.link (IsComplete INPUT_LIMIT end) =
    does_complete kind options end old new d f in
    rw s complete
