-- What a game keeps beside its start board and its steps. No clause of a public call cites this.
use Rattle.std.specs.Prelude.{◌≡◌, ℕ, ◌+◌, ◌≤◌, true, List, [], ◌∷◌, ◌++◌, length}
use Rattle.hex_cells.specs.Sets.{members}
use Rattle.hex_cells.specs.declared.board_size.TheConstants.{MOST_CELLS}
use Rattle.hex_board.specs.Positions.{Position}
use Rattle.hex_game.specs.Games.{is_legal_on, after_step}
use Rattle.hex_game.specs.declared.moves.Step.{Step}

-- how many stones stand on the board
abbrev pub stones_on : Position → ℕ
stones_on now = members now.black MOST_CELLS + members now.white MOST_CELLS

-- each step but a swap leaves one stone more
abbrev pub IsFew : List Step → Position → Type 0
IsFew done now = length done ≤ stones_on now + 1

-- the steps lead, each of them legal, from the board now to the last one, and these are the boards
-- before each; the steps done before led from the start to the board now
abbrev pub StepsLead : Position → List Step → Position → List Step → List Position → Position
    → Type 0
StepsLead start done now [] [] last = (last ≡ now) × IsFew done now
StepsLead start done now [] (board ∷ boards) last = ⊥
StepsLead start done now (step ∷ steps) [] last = ⊥
StepsLead start done now (step ∷ steps) (board ∷ boards) last =
    (board ≡ now) × IsFew done now × (is_legal_on start done now step ≡ true)
    × StepsLead start (done ++ step ∷ []) (after_step start done now step) steps boards last
