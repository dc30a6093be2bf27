-- Which bytes are a record of a game.
use Rattle.std.specs.Prelude.{◌≡◌, ◌≤◌, ℕ, List, Option, Some, None, Ok}
use Rattle.hex_game.specs.Games.{GameData}
use Rattle.sgf_tree.specs.Trees.{GameTrees, depth}
use Rattle.sgf_tree.specs.Grammar.{Text}
use Rattle.sgf_tree.specs.Printing.{max_depth}
use Rattle.sgf_game.specs.GameOf.{game_of}

-- the bytes are a record of the game: a text of trees that nest no deeper than is read, whose game
-- it is
pub record IsRecordOf (bytes : List ℕ) (game : GameData) : Type 0 where
  pub trees : GameTrees
  pub text : Text trees bytes
  pub shallow : depth trees ≤ max_depth
  pub is : game_of trees ≡ Ok game

-- the game of which the bytes are a record, or none if they are a record of no game
abbrev pub IsGameOf : List ℕ → Option GameData → Type 0
IsGameOf bytes None = (game : GameData) → ¬ IsRecordOf bytes game
IsGameOf bytes (Some game) = IsRecordOf bytes game
