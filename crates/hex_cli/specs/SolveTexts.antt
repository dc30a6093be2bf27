-- What mode solve answers.
use Rattle.std.specs.Prelude.{◌≡◌, ◌⊎◌, ◌-◌, ◌*◌, ◌<◌, ℕ, Bool, true, false}
use Rattle.std.specs.Prelude.{List, [], ◌++◌, Option, Some, None, IfSome, codes, length}
use Rattle.std.specs.Fmt.{decimal}
use Rattle.std.specs.List.{slice_get}
use Rattle.std.specs.Option.{option_map_or}
use Rattle.hex_cells.specs.Colours.{colour_word, other_of}
use Rattle.hex_cells.specs.Vertices.{vertex_of}
use Rattle.hex_cells.specs.declared.colours.Colour.{Colour}
use Rattle.hex_cells.specs.declared.colours.Colour.TheVariants.{Black}
use Rattle.hex_board.specs.Joined.{winner_of}
use Rattle.hex_board.specs.Positions.{Position}
use Rattle.hex_board.specs.Wins.{Wins}
use Rattle.win_cert.specs.Texts.{cert_text}
use Rattle.win_cert.specs.Writable.{IsWritable}
use Rattle.win_cert.specs.declared.certs.TheConstants.{MOST_LINES}
use Rattle.hex_game.specs.Games.{GameData, board_of}
use Rattle.hex_game.specs.declared.moves.Step.{Step}
use Rattle.sgf_game.specs.RecordOf.{IsGameOf}
use Rattle.hex_found.specs.Found.{Certifies}
use Rattle.hex_solve.specs.Solved.{IsCellToTry, IsOpenBoard}
use Rattle.hex_solve.specs.declared.answers.Solved.{Solved}
use Rattle.hex_solve.specs.declared.answers.Solved.TheVariants.{Won, Unknown, TooLong, Open}
use Rattle.hex_cli.specs.declared.solutions.SolveOptions.{SolveOptions}

-- the player to place after these steps: the other of who made the last, and Black before any
abbrev pub next_mover : List Step → Colour
next_mover steps =
    option_map_or (λ step. other_of step.colour) (slice_get steps (length steps - 1)) Black

-- the line of the cell that is thought best on a board of this size, if it is asked for
abbrev pub best_cell_line : Bool → ℕ → Option ℕ → List ℕ
best_cell_line true size (Some cell) = codes "best " ++ (vertex_of size cell ++ codes "\n")
best_cell_line true size None = []
best_cell_line false size cell = []

-- the text for an answer of the solver, with the cell that is thought best or without
abbrev pub solved_text : Bool → ℕ → Solved → List ℕ
solved_text best size (Won winner cert) =
    codes "won " ++ (colour_word winner ++ (codes "\n" ++ cert_text cert))
solved_text best size (Unknown spent own cell) =
    codes "unknown " ++ (decimal spent ++ (codes "\n" ++ best_cell_line best size cell))
solved_text best size (TooLong winner lines) =
    codes "too long " ++ (colour_word winner ++ (codes " " ++ (decimal lines ++ codes "\n")))
solved_text best size (Open full) = codes "open\n"

-- an answer of which the certificate, or the cell of a board of this size, can be written; private
-- clauses alone cite it
abbrev pub IsWritableAnswer : ℕ → Solved → Type 0
IsWritableAnswer size (Won winner cert) = IsWritable cert
IsWritableAnswer size (Unknown spent own best) = IfSome best (λ cell. cell < size * size)
IsWritableAnswer size (TooLong winner lines) = Unit {0}
IsWritableAnswer size (Open full) = Unit {0}

-- What the solver may answer with this budget, of the position p with `mover` to place. Who is told
-- to win does, whatever the other does: his certificate shows it, or has more lines than one may
-- have. If nobody is told to win, the budget is spent, and the cell that is thought best is empty;
-- or a full board keeps the stones of p, and nobody is joined on it.
abbrev pub MayBeAnswered : ℕ → Position → Colour → Solved → Type 0
MayBeAnswered budget p mover (Won winner cert) =
    Wins winner p mover × Certifies p mover winner cert
MayBeAnswered budget p mover (Unknown spent own best) = (spent ≡ budget) × IsCellToTry p best
MayBeAnswered budget p mover (TooLong winner lines) = Wins winner p mover × (MOST_LINES < lines)
MayBeAnswered budget p mover (Open full) = IsOpenBoard p full

-- a player is joined on the game's board, and the text says who
abbrev pub IsOverText : GameData → List ℕ → Type 0
IsOverText game text = (winner : Colour) × (winner_of (board_of game) ≡ Some winner)
    × (text ≡ codes "over " ++ (colour_word winner ++ codes "\n"))

-- nobody is joined on the game's board, and the text is that of what the solver may answer of it
abbrev pub IsSolvedText : SolveOptions → GameData → List ℕ → Type 0
IsSolvedText asked game text =
    (solved : Solved) × (winner_of (board_of game) ≡ None)
    × MayBeAnswered asked.budget (board_of game) (next_mover game.steps) solved
    × (text ≡ solved_text asked.best (board_of game).size solved)

-- Mode solve: the text tells who wins the position of the game of which the bytes are a record; or
-- they are a record of none.
abbrev pub IsSolveText : SolveOptions → List ℕ → List ℕ → Bool → Type 0
IsSolveText asked bytes text true = (game : GameData) × IsGameOf bytes (Some game)
    × (IsOverText game text ⊎ IsSolvedText asked game text)
IsSolveText asked bytes text false =
    IsGameOf bytes None × (text ≡ codes "not a game\n")
