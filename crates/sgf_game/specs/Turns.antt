-- The moves of a line as turns of a game, and which of them is refused.
use Rattle.std.specs.Prelude.{ℕ, Bool, true, false, not, ◌==◌, List, [], ◌∷◌, Option, Some, None}
use Rattle.std.specs.Prelude.{Result, Ok, Err, map, flat_map, take, length, slice_get, find, codes}
use Rattle.std.specs.Prelude.{option_map, if◌then◌else◌}
use Rattle.std.specs.List.{range_with_len}
use Rattle.std.specs.Str.{str_eq_ignore_ascii_case}
use Rattle.hex_cells.specs.Vertices.{vertex_cell}
use Rattle.hex_cells.specs.declared.colours.Colour.{Colour}
use Rattle.hex_board.specs.Positions.{Position}
use Rattle.hex_game.specs.Moves.{step_of}
use Rattle.hex_game.specs.Games.{GameData, is_legal}
use Rattle.hex_game.specs.declared.moves.Move.TheVariants.{Stone, Swap}
use Rattle.hex_game.specs.declared.moves.Step.{Step}
use Rattle.sgf_tree.specs.declared.lists.Node.{Node}
use Rattle.sgf_game.specs.declared.turns.MoveMeaning.{MoveMeaning}
use Rattle.sgf_game.specs.declared.turns.MoveMeaning.TheVariants.{Plays, Ends}
use Rattle.sgf_game.specs.declared.turns.Turn.{Turn}
use Rattle.sgf_game.specs.declared.error.GameError.{GameError}
use Rattle.sgf_game.specs.declared.error.GameError.TheVariants.{BadMove}
use Rattle.sgf_game.specs.Lines.{Entry, entries_in, ends}

-- what a move's text says on the board of size n: the swap, the end of the line, or a stone on the
-- cell of a vertex
abbrev pub said_by : ℕ → List ℕ → Option MoveMeaning
said_by n text =
    if str_eq_ignore_ascii_case text (codes "swap-pieces") then Some (Plays Swap)
    else (if ends text then Some Ends
    else option_map (λ cell. Plays (Stone cell)) (vertex_cell n text))

-- a move as a turn; one that is not alone in its node says nothing
abbrev pub turn_of : ℕ → Bool → Entry → Turn
turn_of n alone e = record { colour = e.colour; said = if alone then said_by n e.text else None }

abbrev pub turns_in : ℕ → Node → List Turn
turns_in n node = map (turn_of n (length (entries_in node) == 1)) (entries_in node)

-- the turns of a line, one for each move
abbrev pub turns_of : ℕ → List Node → List Turn
turns_of n line = flat_map (turns_in n) line

abbrev pub step_said : Colour → Option MoveMeaning → List Step
step_said colour None = []
step_said colour (Some Ends) = []
step_said colour (Some (Plays what)) = step_of colour what ∷ []

-- the steps that turns make: none for one that ends the line
abbrev pub steps_of : List Turn → List Step
steps_of turns = flat_map (λ turn. step_said turn.colour turn.said) turns

-- the game that these turns lead to
abbrev pub game_after : Position → List Turn → GameData
game_after start turns = record { start = start; steps = steps_of turns }

abbrev pub is_refused_said : GameData → Colour → Option MoveMeaning → Bool
is_refused_said game colour None = true
is_refused_said game colour (Some Ends) = false
is_refused_said game colour (Some (Plays what)) = not (is_legal game (step_of colour what))

abbrev pub is_refused_next : GameData → Option Turn → Bool
is_refused_next game None = false
is_refused_next game (Some turn) = is_refused_said game turn.colour turn.said

-- turn i says nothing, or its step isn't legal in the game that the turns before it lead to
abbrev pub is_refused : Position → List Turn → ℕ → Bool
is_refused start turns i = is_refused_next (game_after start (take i turns)) (slice_get turns i)

-- the first turn that is refused, counted from 0
abbrev pub first_refused : Position → List Turn → Option ℕ
first_refused start turns = find (is_refused start turns) (range_with_len 0 (length turns))

abbrev pub game_unless : Option ℕ → GameData → Result GameData GameError
game_unless None game = Ok game
game_unless (Some index) game = Err (BadMove index)

-- the game of these turns, unless one is refused
abbrev pub game_of_turns : Position → List Turn → Result GameData GameError
game_of_turns start turns = game_unless (first_refused start turns) (game_after start turns)
