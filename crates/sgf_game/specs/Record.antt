-- The record of a game.
use Rattle.std.specs.Prelude.{ℕ, List, [], ◌∷◌, ◌++◌, map, codes}
use Rattle.std.specs.Fmt.{decimal}
use Rattle.hex_cells.specs.Vertices.{vertex_of, vertices_of}
use Rattle.hex_cells.specs.declared.colours.Colour.{Colour}
use Rattle.hex_cells.specs.declared.colours.Colour.TheVariants.{Black, White}
use Rattle.hex_board.specs.Positions.{Position}
use Rattle.hex_game.specs.Games.{GameData}
use Rattle.hex_game.specs.declared.moves.Move.{Move}
use Rattle.hex_game.specs.declared.moves.Move.TheVariants.{Stone, Swap}
use Rattle.hex_game.specs.declared.moves.Step.{Step}
use Rattle.sgf_tree.specs.declared.lists.Prop.{Prop}
use Rattle.sgf_tree.specs.declared.lists.Node.{Node}
use Rattle.sgf_tree.specs.Trees.{GameTrees, none, tree}

abbrev pub prop_of : List ℕ → List (List ℕ) → Prop
prop_of name values = record { name = name; values = values }

-- a property stands only if it has a value
abbrev pub prop_if : List ℕ → List (List ℕ) → List Prop
prop_if name [] = []
prop_if name (value ∷ values) = prop_of name (value ∷ values) ∷ []

-- `FF[4]GM[11]SZ[n]`, then AB and AW if there are such start stones
abbrev pub root_of : Position → Node
root_of start = record {
  props =
      prop_of (codes "FF") (codes "4" ∷ []) ∷ prop_of (codes "GM") (codes "11" ∷ [])
      ∷ prop_of (codes "SZ") (decimal start.size ∷ [])
      ∷ (prop_if (codes "AB") (vertices_of start.size start.black)
      ++ prop_if (codes "AW") (vertices_of start.size start.white));
}

abbrev pub letter_of : Colour → List ℕ
letter_of Black = codes "B"
letter_of White = codes "W"

abbrev pub text_of : ℕ → Move → List ℕ
text_of n (Stone cell) = vertex_of n cell
text_of n Swap = codes "swap-pieces"

-- the node of a step
abbrev pub node_of_step : ℕ → Step → Node
node_of_step n step =
    record { props = prop_of (letter_of step.colour) (text_of n step.what ∷ []) ∷ [] }

-- Record: one tree without kids, of the root and a node for each step
abbrev pub record_of : GameData → GameTrees
record_of game = tree (root_of game.start ∷ map (node_of_step game.start.size) game.steps) none none
