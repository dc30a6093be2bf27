-- What the quiet commands do that change the game.
use Rattle.std.specs.Prelude.{ℕ, ◌==◌, ◌&&◌, Bool, List, [], ◌∷◌, Option, Some, None}
use Rattle.std.specs.Prelude.{nat_le, if◌then◌else◌}
use Rattle.std.specs.Option.{option_map_or}
use Rattle.hex_cells.specs.declared.colours.Colour.{Colour}
use Rattle.hex_cells.specs.declared.board_size.TheConstants.Size.{MAX}
use Rattle.hex_board.specs.Positions.{empty_board}
use Rattle.hex_game.specs.Games.{GameData, board_of, is_legal, new_game, with_step, without_last}
use Rattle.hex_game.specs.Moves.{step_of}
use Rattle.hex_game.specs.declared.moves.Step.{Step}
use Rattle.hex_engine.specs.EngineState.{EngineState}
use Rattle.hex_engine.specs.Forms.{colour_of, move_word_of}
use Rattle.hex_engine.specs.Replies.{Reply, Done, Failed, Reaction}
use Rattle.hex_engine.specs.declared.answers.Fail.TheVariants.{Syntax, Size, Illegal, NoUndo}
use Rattle.hex_engine.specs.declared.forms.MoveWord.{MoveWord}
use Rattle.hex_engine.specs.declared.forms.MoveWord.TheVariants.{Formless, OffBoard, Says}

-- a reply, and the game after it; all else of a conversation stays
pub record QuietReaction : Type 0 where
  pub reply : Reply
  pub game : GameData

-- the same, in a conversation that stands so
abbrev pub in_conversation : EngineState → QuietReaction → Reaction
in_conversation engine quiet =
    record { reply = quiet.reply; after = record engine { game = quiet.game } }

-- a reply after which the game is as before
abbrev pub reply_alone : GameData → Reply → QuietReaction
reply_alone game reply = record { reply = reply; game = game }

-- a success without text, after which the game is this
abbrev pub success_at : GameData → QuietReaction
success_at game = record { reply = Done []; game = game }

-- board and history are emptied
abbrev pub emptied : ℕ → QuietReaction
emptied size = success_at (new_game (empty_board size))

-- what `boardsize` does with these numbers, if they are numbers: a board has 1 to 11 columns, and
-- as many rows
abbrev pub resized : GameData → Option (ℕ × ℕ) → QuietReaction
resized game None = reply_alone game (Failed Syntax)
resized game (Some sizes) =
    if (sizes.0 == sizes.1) && (nat_le 1 sizes.0 && nat_le sizes.0 MAX) then emptied sizes.0
    else reply_alone game (Failed Size)

-- what `play` does with this word of a move
abbrev pub played : GameData → Colour → MoveWord → QuietReaction
played game colour Formless = reply_alone game (Failed Syntax)
played game colour OffBoard = reply_alone game (Failed Illegal)
played game colour (Says what) =
    if is_legal game (step_of colour what) then success_at (with_step game (step_of colour what))
    else reply_alone game (Failed Illegal)

-- what `play` does with its arguments, of which the first has to name a colour
abbrev pub playing : GameData → List (List ℕ) → QuietReaction
playing game [] = reply_alone game (Failed Syntax)
playing game (colour ∷ []) = reply_alone game (Failed Syntax)
playing game (colour ∷ what ∷ []) =
    option_map_or (λ c. played game c (move_word_of (board_of game).size what)) (colour_of colour)
    (reply_alone game (Failed Syntax))
playing game (colour ∷ what ∷ word ∷ words) = reply_alone game (Failed Syntax)

-- what `undo` does with a history
abbrev pub undone : GameData → List Step → QuietReaction
undone game [] = reply_alone game (Failed NoUndo)
undone game (step ∷ steps) = success_at (without_last game)
