-- The headline: what stands of each generated move of a session that is done.
use Rattle.std.specs.Prelude.{◌≡◌, ◌≢◌, ℕ, true, List, [], ◌∷◌, ◌++◌, Option, Some, slice_get}
use Rattle.hex_io.specs.Told.{Both}
use Rattle.htp_line.specs.Answering.{success}
use Rattle.htp_line.specs.Lines.{lines}
use Rattle.hex_cells.specs.Vertices.{vertex_of}
use Rattle.hex_game.specs.Games.{board_of, is_legal, with_step}
use Rattle.hex_game.specs.Moves.{step_of}
use Rattle.hex_game.specs.declared.moves.Move.TheVariants.{Stone}
use Rattle.hexd_args.specs.declared.settings.Options.{Options}
use Rattle.hex_plan.specs.Good.{IsDecidedBySearch}
use Rattle.hex_plan.specs.Plans.{WinsBy}
use Rattle.hex_plan.specs.Turns.{TurnData}
use Rattle.hex_plan.specs.declared.types.Plan.{Plan}
use Rattle.hex_plan.specs.declared.types.Plan.TheVariants.{Win, Search}
use Rattle.hex_engine.specs.EngineState.{EngineState}
use Rattle.hex_engine.specs.Supply.{Supply}
use Rattle.htp_session.specs.Talk.{TalkState, talk}
use Rattle.htp_session.specs.Endings.{since}
use Rattle.hex_cli.specs.Modes.{session_start}
use Rattle.hex_cli.specs.Playing.{IsDoneSession}
use Rattle.hex_devices.specs.Devices.{DevicesState}
use Rattle.hex_devices.specs.declared.ends.End.{End}
use Rattle.hex_devices.specs.declared.ends.End.TheVariants.{Done}

-- Certified, a move wins against every reply; searched, it is the best of a closed tree.
abbrev pub WinsOrIsBest : EngineState → TurnData → Plan → Type 0
WinsOrIsBest start t (Win cert cell) = WinsBy t.board t.player t.cell
WinsOrIsBest start t (Search threats allowed lost) =
    IsDecidedBySearch start.options.knobs start.options.means t allowed

-- A line was answered by the move of a turn.
pub record IsGeneratedMove (start : EngineState) (used : Supply)
    (before after : TalkState) : Type 0 where
  pub turn : TurnData
  -- legal: the move may be played in the game of the lines before, and is
  pub legal : is_legal before.at.game (step_of turn.player (Stone turn.cell)) ≡ true
  pub played : after.at.game ≡ with_step before.at.game (step_of turn.player (Stone turn.cell))
  -- written: the answer is its vertex
  pub written : (id : Option ℕ)
      × (after.text ≡ before.text ++ success id (vertex_of turn.board.size turn.cell))
  -- archived: the turn is for the board of that game, and stands at its place among those used up
  pub board : turn.board ≡ board_of before.at.game
  pub number : turn.number ≡ before.at.turns
  pub place : slice_get used.turns turn.number ≡ Some turn
  pub chosen : WinsOrIsBest start turn turn.planned.plan

-- each of these lines that took a turn was answered by its move
abbrev pub AreGeneratedMoves : EngineState → Supply → List (List ℕ) → Type 0
AreGeneratedMoves start used lines = (before after others : List (List ℕ)) (raw : List ℕ)
    → after ≡ before ++ raw ∷ [] → lines ≡ after ++ others
    → (talk start used after).at.turns ≢ (talk start used before).at.turns
    → IsGeneratedMove start used (talk start used before) (talk start used after)

-- Mode htp: with status 0 the session is done, and each of its lines that took a turn has its move.
abbrev pub HasHeadline : Options → End → DevicesState → DevicesState → Type 0
HasHeadline options end old new = end ≡ Done → (used : Supply)
    × IsDoneSession (session_start options) used old new × Both old.link new.link
    (λ o n. AreGeneratedMoves (session_start options) used (lines (since o n)))
