-- Laws of a talk.
use Rattle.std.specs.Prelude.{◌≡◌, ◌≢◌, ℕ, Bool, true, List}
use Rattle.hex_io.specs.declared.files.File.{File}
use Rattle.hex_cells.specs.declared.colours.Colour.{Colour}
use Rattle.hex_game.specs.Games.{is_legal}
use Rattle.hex_game.specs.Moves.{step_of}
use Rattle.hex_game.specs.declared.moves.Move.TheVariants.{Stone}
use Rattle.hex_plan.specs.Good.{IsGood}
use Rattle.hex_plan.specs.Turns.{TurnData}
use Rattle.hex_engine.specs.EngineState.{EngineState}
use Rattle.hex_engine.specs.Supply.{Supply, and_then}
use Rattle.hex_engine.specs.Uses.{AreGood, CameOf, HasOneWorker}
use Rattle.hex_engine.specs.MoveReplies.{is_next}
use Rattle.hex_engine.specs.Replies.{Missing}
use Rattle.htp_session.specs.Talk.{TalkState, Short, IsThrough, talk}
use Rattle.htp_session.specs.Supply.{with_more_left}

-- no request wanted what was not there
abbrev pub IsAnswered : TalkState → Type 0
IsAnswered s = (missing : Missing) → s.ending ≢ Short missing

-- more at the end of what is left changes nothing of a talk that was not short
abbrev pub MoreLeftIsNotUsed : Type 0
MoreLeftIsNotUsed = (start : EngineState) → (left more : Supply) → (lines : List (List ℕ))
    → IsAnswered (talk start left lines)
    → talk start (and_then left more) lines ≡ with_more_left (talk start left lines) more

-- two talks say the same, and stand at the same then
abbrev pub SaySame : TalkState → TalkState → Type 0
SaySame one other = (one.text ≡ other.text) × (one.at ≡ other.at)

-- with these options' one worker, two supplies whose turns are good and whose loads are the same
pub record ServesAlike (start : EngineState) (one other : Supply) : Type 0 where
  pub worker : HasOneWorker start.options
  pub loads : one.loads ≡ other.loads
  pub good : AreGood start.options one.turns
  pub other_good : AreGood start.options other.turns

-- the same, if the loads of both came of these files and fetches
pub record ServesAlikeFrom (files : List File) (tries : List Bool) (start : EngineState)
    (one other : Supply) : Type 0 where
  pub worker : HasOneWorker start.options
  pub came : CameOf files tries one.loads
  pub other_came : CameOf files tries other.loads
  pub good : AreGood start.options one.turns
  pub other_good : AreGood start.options other.turns

-- of two such supplies, if both talks over some lines were answered, they say the same
abbrev pub AnsweredAlike : (EngineState → Supply → Supply → Type 0) → Type 0
AnsweredAlike Alike = (start : EngineState) → (one other : Supply) → Alike start one other
    → (lines : List (List ℕ)) → IsAnswered (talk start one lines)
    → IsAnswered (talk start other lines) → SaySame (talk start one lines) (talk start other lines)

-- of two such supplies, if both talks over some lines are through, they are the same
abbrev pub ThroughAlike : (EngineState → Supply → Supply → Type 0) → Type 0
ThroughAlike Alike = (start : EngineState) → (one other : Supply) → Alike start one other
    → (lines : List (List ℕ)) → IsThrough (talk start one lines)
    → IsThrough (talk start other lines) → talk start one lines ≡ talk start other lines

-- a good turn that is a conversation's next has a legal stone on its cell
abbrev pub SearchedMovesAreLegal : Type 0
SearchedMovesAreLegal = (at : EngineState) → (colour : Colour) → (turn : TurnData)
    → IsGood at.options.knobs at.options.means turn
    → is_next at colour turn ≡ true
    → is_legal at.game (step_of colour (Stone turn.cell)) ≡ true
