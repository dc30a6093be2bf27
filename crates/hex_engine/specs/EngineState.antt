-- Where a conversation stands.
use Rattle.std.specs.Prelude.{ℕ, Option, None}
use Rattle.hex_board.specs.Positions.{empty_board}
use Rattle.hex_game.specs.Games.{GameData, new_game}
use Rattle.hex_plan.specs.TurnTexts.{TurnTextsData}
use Rattle.hex_engine.specs.declared.options.Options.{Options}

-- what the next answer depends on: the options, the game, how many turns were used, and the texts
-- of the last one
pub record EngineState : Type 0 where
  pub options : Options
  pub game : GameData
  pub turns : ℕ
  pub last : Option TurnTextsData

-- a fresh conversation over an empty board of that size
abbrev pub opening : Options → ℕ → EngineState
opening options size =
    record { options = options; game = new_game (empty_board size); turns = 0; last = None }
