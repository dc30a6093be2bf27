-- What a step is in a history.
use Rattle.std.specs.Prelude.{ℕ, List, [], ◌∷◌, Option, Some, None}
use Rattle.hex_cells.specs.declared.colours.Colour.{Colour}
use Rattle.hex_cells.specs.declared.colours.Colour.TheVariants.{Black, White}
use Rattle.hex_game.specs.declared.moves.Move.{Move}
use Rattle.hex_game.specs.declared.moves.Move.TheVariants.{Stone, Swap}
use Rattle.hex_game.specs.declared.moves.Step.{Step}

abbrev pub step_of : Colour → Move → Step
step_of colour what = record { colour = colour; what = what }

-- the cell that a step of Black puts a stone on
abbrev pub black_stone_by : Colour → Move → Option ℕ
black_stone_by Black (Stone cell) = Some cell
black_stone_by Black Swap = None
black_stone_by White what = None

-- the cell of Black's stone, if that one stone is the whole history
abbrev pub lone_black_stone : List Step → Option ℕ
lone_black_stone [] = None
lone_black_stone (step ∷ []) = black_stone_by step.colour step.what
lone_black_stone (step ∷ next ∷ steps) = None

-- all steps but the last
abbrev pub before_last : List Step → List Step
before_last [] = []
before_last (step ∷ []) = []
before_last (step ∷ next ∷ steps) = step ∷ before_last (next ∷ steps)
