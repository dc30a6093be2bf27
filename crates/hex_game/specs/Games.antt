-- Games: the board that a history leads to, and what may be played next.
use Rattle.std.specs.Prelude.{◌≡◌, ℕ, ◌+◌, ◌*◌, ◌/◌, ◌%◌, ◌<◌, ◌==◌, ◌&&◌, ◌||◌, not, Bool, true}
use Rattle.std.specs.Prelude.{List, [], ◌∷◌, ◌++◌, Option, Some, None, is_some, if◌then◌else◌}
use Rattle.hex_cells.specs.Colours.{is_same}
use Rattle.hex_cells.specs.declared.colours.Colour.{Colour}
use Rattle.hex_cells.specs.declared.colours.Colour.TheVariants.{Black, White}
use Rattle.hex_board.specs.Positions.{Position, empty_board, is_empty_at, placed}
use Rattle.hex_board.specs.Joined.{is_joined}
use Rattle.hex_game.specs.Moves.{lone_black_stone, before_last}
use Rattle.hex_game.specs.declared.moves.Move.{Move}
use Rattle.hex_game.specs.declared.moves.Move.TheVariants.{Stone, Swap}
use Rattle.hex_game.specs.declared.moves.Step.{Step}
use Rattle.hex_game.specs.declared.moves.PlayError.{PlayError}
use Rattle.hex_game.specs.declared.moves.PlayError.TheVariants.{Occupied, Over, BadSwap}

-- a player is joined
abbrev pub is_over : Position → Bool
is_over now = is_joined now.size Black now.black || is_joined now.size White now.white

-- a swap is White's alone, if the game began without stones and its history is one stone of
-- Black
abbrev pub may_swap : Position → List Step → Colour → Bool
may_swap start steps colour =
    is_same colour White
    && (start.black == 0 && (start.white == 0 && is_some (lone_black_stone steps)))

abbrev pub fits : Position → List Step → Position → Colour → Move → Bool
fits start steps now colour (Stone cell) = is_empty_at now cell
fits start steps now colour Swap = may_swap start steps colour

-- a step is legal on the board now, which this history led to from the start:
-- no player is joined, and a stone's cell is empty, or the swap may come
abbrev pub is_legal_on : Position → List Step → Position → Step → Bool
is_legal_on start steps now step = not (is_over now) && fits start steps now step.colour step.what

-- the cell of that column as row and that row as column
abbrev pub mirrored : ℕ → ℕ → ℕ
mirrored size cell = cell % size * size + cell / size

-- Black's stone, the only one, is removed, and a White stone is put on its mirrored cell
abbrev pub swapped : Position → Option ℕ → Position
swapped now None = now
swapped now (Some cell) = placed (empty_board now.size) White (mirrored now.size cell)

abbrev pub moved : Position → List Step → Colour → Move → Position
moved now steps colour (Stone cell) = placed now colour cell
moved now steps colour Swap = swapped now (lone_black_stone steps)

-- the board after one more step; a step that isn't legal leaves it as it is
abbrev pub after_step : Position → List Step → Position → Step → Position
after_step start steps now step =
    if is_legal_on start steps now step then moved now steps step.colour step.what else now

-- the board after these steps, if the steps before them led from the start to the board now
abbrev pub replay_on : Position → List Step → Position → List Step → Position
replay_on start before now [] = now
replay_on start before now (step ∷ steps) =
    replay_on start (before ++ step ∷ []) (after_step start before now step) steps

-- the board that is got by taking the steps in turn from the start board
unfoldable pub replay : Position → List Step → Position
replay start steps = replay_on start [] start steps

-- a game without where it lies in memory
pub record GameData : Type 0 where
  pub start : Position
  pub steps : List Step

abbrev pub board_of : GameData → Position
board_of game = replay game.start game.steps

abbrev pub is_legal : GameData → Step → Bool
is_legal game step = is_legal_on game.start game.steps (board_of game) step

-- why a step is refused: by the first cause that applies
abbrev pub misfit : Position → List Step → Position → Colour → Move → Option PlayError
misfit start steps now colour (Stone cell) = if is_empty_at now cell then None else Some Occupied
misfit start steps now colour Swap = if may_swap start steps colour then None else Some BadSwap

abbrev pub refusal_on : Position → List Step → Position → Step → Option PlayError
refusal_on start steps now step =
    if is_over now then Some Over else misfit start steps now step.colour step.what

abbrev pub refusal : GameData → Step → Option PlayError
refusal game step = refusal_on game.start game.steps (board_of game) step

abbrev pub with_step : GameData → Step → GameData
with_step game step = record game { steps = game.steps ++ step ∷ [] }

abbrev pub without_last : GameData → GameData
without_last game = record game { steps = before_last game.steps }

-- a stone's cell lies on the board
abbrev pub IsOnBoard : Position → Move → Type 0
IsOnBoard now (Stone cell) = cell < now.size * now.size
IsOnBoard now Swap = Unit {0}

-- a stone's cell is empty, and a swap answers Black's one stone
abbrev pub IsPlayable : Position → List Step → Move → Type 0
IsPlayable now steps (Stone cell) = is_empty_at now cell ≡ true
IsPlayable now steps Swap = is_some (lone_black_stone steps) ≡ true

abbrev pub new_game : Position → GameData
new_game start = record { start = start; steps = [] }

-- each step is legal in the game that the steps before it make
abbrev pub AreLegal : Position → List Step → Type 0
AreLegal start steps =
    (done : List Step) (step : Step) (rest : List Step) → done ++ step ∷ rest ≡ steps
    → is_legal (record { start = start; steps = done }) step ≡ true
