-- The game of a collection, or why it has none.
use Rattle.std.specs.Prelude.{◌≡◌, ℕ, List, [], ◌∷◌, Option, Some, None, Result, Err, ◌⊎◌}
use Rattle.std.specs.Prelude.{if◌then◌else◌}
use Rattle.hex_game.specs.Games.{GameData}
use Rattle.sgf_tree.specs.declared.lists.Node.{Node}
use Rattle.sgf_tree.specs.Trees.{GameTrees}
use Rattle.sgf_game.specs.declared.error.GameError.{GameError}
use Rattle.sgf_game.specs.declared.error.GameError.TheVariants.{NotHex, BadSize, BadSetup, Memory}
use Rattle.sgf_game.specs.Lines.{line_of}
use Rattle.sgf_game.specs.Setup.{is_hex, size_of, is_bad_setup, start_of}
use Rattle.sgf_game.specs.Turns.{turns_of, game_of_turns}

abbrev pub game_of_size : Option ℕ → Node → List Node → Result GameData GameError
game_of_size None root behind = Err BadSize
game_of_size (Some n) root behind =
    if is_bad_setup n root behind then Err BadSetup
    else game_of_turns (start_of n root) (turns_of n (root ∷ behind))

-- the game of a line that begins with its root
abbrev pub game_of_line : List Node → Result GameData GameError
game_of_line [] = Err NotHex
game_of_line (root ∷ behind) =
    if is_hex root then game_of_size (size_of root) root behind else Err NotHex

-- GameOf: a start board and steps, or the first refusal of NotHex, BadSize, BadSetup and BadMove
-- that applies
abbrev pub game_of : GameTrees → Result GameData GameError
game_of trees = game_of_line (line_of trees)

-- the answer, unless memory ran out
abbrev pub GameOrMemory : Result GameData GameError → Result GameData GameError → Type 0
GameOrMemory result answer = (result ≡ answer) ⊎ (result ≡ Err Memory)
