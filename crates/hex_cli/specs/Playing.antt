-- Mode htp: what stands of a session, and of the turns that it used up.
use Rattle.std.specs.Prelude.{◌≡◌, [], ◌++◌}
use Rattle.std.specs.List.{AllByRecursion}
use Rattle.hex_io.specs.Told.{Both}
use Rattle.hex_io.specs.declared.limits.TheConstants.{INPUT_LIMIT}
use Rattle.hexd_args.specs.declared.settings.Options.{Options}
use Rattle.hex_plan.specs.Laws.{LosesAsPlanned, LosesOutsideCarriers}
use Rattle.hex_plan.specs.Turns.{TurnData}
use Rattle.hex_engine.specs.Supply.{Supply}
use Rattle.hex_engine.specs.EngineState.{EngineState}
use Rattle.hex_engine.specs.Uses.{AreGood, Loading}
use Rattle.htp_session.specs.Endings.{Course, Finished}
use Rattle.hex_cli.specs.Modes.{PlaysBy, engine_options}
use Rattle.hex_devices.specs.Devices.{DevicesState}
use Rattle.hex_devices.specs.declared.ends.End.{End}

-- a session came to this end
abbrev pub HasPlayed : Options → End → DevicesState → DevicesState → Type 0
HasPlayed options end before after = (used : Supply) × PlaysBy used options end before after

-- the same, and each turn that it used up is good
abbrev pub HasGoodTurns : Options → End → DevicesState → DevicesState → Type 0
HasGoodTurns options end before after = (used : Supply) × PlaysBy used options end before after
    × AreGood (engine_options options) used.turns

-- each move outside the carrier of one of the turn's threats loses, and if its plan says that
-- the board is lost each move does
pub record HasTrueThreats (turn : TurnData) : Type 0 where
  pub outside : LosesOutsideCarriers turn.board turn.player turn.planned.plan
  pub where_lost : LosesAsPlanned turn.board turn.player turn.planned.plan

-- the same, and of each turn that it used up the threats are true
abbrev pub HasKnownThreats : Options → End → DevicesState → DevicesState → Type 0
HasKnownThreats options end before after = (used : Supply) × PlaysBy used options end before after
    × AllByRecursion HasTrueThreats used.turns

-- A session from this start is done, and used up just this. The files stayed, and each load came of
-- a fetch, in turn; the archive took the turns; no read came before the answers to all lines taken
-- by then; and the transcript of all lines was given.
pub record IsDoneSession (start : EngineState) (used : Supply)
    (old new : DevicesState) : Type 0 where
  pub loaded : Loading old.shelf new.shelf used []
  pub archived : Both old.turns new.turns (λ turns now. now ≡ turns ++ used.turns)
  pub read : Both old.link new.link (Course start used)
  pub said : Both old.link new.link (Finished start used INPUT_LIMIT)
