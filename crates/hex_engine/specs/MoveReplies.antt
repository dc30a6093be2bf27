-- What `genmove` does.
use Rattle.std.specs.Prelude.{ℕ, ◌+◌, ◌==◌, ◌&&◌, Bool, List, [], ◌∷◌, Option, Some, None}
use Rattle.std.specs.Prelude.{Result, Err, if◌then◌else◌}
use Rattle.hex_cells.specs.Vertices.{vertex_of}
use Rattle.hex_cells.specs.declared.colours.Colour.{Colour}
use Rattle.hex_board.specs.Positions.{Position}
use Rattle.hex_board.specs.Wins.{is_same}
use Rattle.hex_game.specs.Games.{board_of, with_step}
use Rattle.hex_game.specs.Moves.{step_of}
use Rattle.hex_game.specs.declared.moves.Move.TheVariants.{Stone}
use Rattle.hex_plan.specs.Openings.{may_move}
use Rattle.hex_plan.specs.TurnTexts.{texts_of}
use Rattle.hex_plan.specs.Turns.{TurnData}
use Rattle.hex_engine.specs.EngineState.{EngineState}
use Rattle.hex_engine.specs.Forms.{colour_of}
use Rattle.hex_engine.specs.Replies.{Done, Failed, Reaction, Turned, Missing, NoTurn}
use Rattle.hex_engine.specs.Replies.{unchanged, unused}
use Rattle.hex_engine.specs.Supply.{Supply}
use Rattle.hex_engine.specs.declared.answers.Fail.TheVariants.{Syntax, Over}

-- the two boards are one
abbrev pub is_board : Position → Position → Bool
is_board a b = (a.size == b.size) && ((a.black == b.black) && (a.white == b.white))

-- the turn is this conversation's next: it has the board of the game, this colour, and the number
-- of turns before it
abbrev pub is_next : EngineState → Colour → TurnData → Bool
is_next engine colour turn =
    is_board turn.board (board_of engine.game) &&
    (is_same turn.player colour && (turn.number == engine.turns))

-- the turn's cell is played and answered, and its texts are those of the last turn
abbrev pub turned : EngineState → Colour → TurnData → Reaction
turned engine colour turn = record {
  reply = Done (vertex_of (board_of engine.game).size turn.cell);
  after = record engine {
    game = with_step engine.game (step_of colour (Stone turn.cell));
    turns = engine.turns + 1;
    last = Some (texts_of turn);
  };
}

-- the next turn is used up
abbrev pub moving_next : EngineState → Supply → List TurnData → Colour → Result Turned Missing
moving_next engine left [] colour = Err NoTurn
moving_next engine left (turn ∷ turns) colour =
    if is_next engine colour turn then
    unused (record left { turns = turns }) (turned engine colour turn) else Err NoTurn

-- what `genmove` does with a colour, if there is one
abbrev pub moving_by : EngineState → Supply → Option Colour → Result Turned Missing
moving_by engine left None = unused left (unchanged engine (Failed Syntax))
moving_by engine left (Some colour) =
    if may_move (board_of engine.game) then moving_next engine left left.turns colour
    else unused left (unchanged engine (Failed Over))

-- the colour, if it is the only argument
abbrev pub lone_colour : List (List ℕ) → Option Colour
lone_colour [] = None
lone_colour (word ∷ []) = colour_of word
lone_colour (word ∷ other ∷ words) = None

-- what `genmove` does with its arguments
abbrev pub moving : EngineState → Supply → List (List ℕ) → Result Turned Missing
moving engine left args = moving_by engine left (lone_colour args)
