-- The main line of a collection, and the moves in its nodes.
use Rattle.std.specs.Prelude.{ℕ, Bool, ◌||◌, List, [], ◌∷◌, ◌++◌, Option, Some, None, map, flat_map}
use Rattle.std.specs.Prelude.{codes, if◌then◌else◌}
use Rattle.std.specs.Borrow.{Bor}
use Rattle.std.specs.List.{list_any}
use Rattle.std.specs.Option.{option_map_or}
use Rattle.std.specs.Str.{bytes_eq, str_eq_ignore_ascii_case}
use Rattle.hex_cells.specs.declared.colours.Colour.{Colour}
use Rattle.hex_cells.specs.declared.colours.Colour.TheVariants.{Black, White}
use Rattle.sgf_tree.specs.declared.lists.Prop.{Prop}
use Rattle.sgf_tree.specs.declared.lists.Node.{Node}
use Rattle.sgf_tree.specs.Trees.{GameTrees, none, tree}
use Rattle.sgf_game.specs.Values.{trimmed}

-- the nodes that references lend
abbrev pub nodes_lent : List (Bor Node) → List Node
nodes_lent nodes = map (λ node. node.now) nodes

-- the nodes of the first tree, then those of the first of its kids, and so on
abbrev pub main_line : GameTrees → List Node
main_line none = []
main_line (tree nodes kids others) = nodes ++ main_line kids

-- a move of a record: a value of B or W
pub record Entry : Type 0 where
  pub colour : Colour
  pub text : List ℕ

abbrev pub entry : Colour → List ℕ → Entry
entry colour value = record { colour = colour; text = trimmed value }

-- the player whose moves the properties of this name hold
abbrev pub mover : List ℕ → Option Colour
mover name =
    if bytes_eq name (codes "B") then Some Black
    else (if bytes_eq name (codes "W") then Some White else None)

-- the moves that a property holds
abbrev pub entries_if : Prop → List Entry
entries_if p = option_map_or (λ colour. map (entry colour) p.values) (mover p.name) []

-- the moves in a node, in the order of its properties and values
abbrev pub entries_in : Node → List Entry
entries_in node = flat_map entries_if node.props

-- the words that end a game without a step, each letter in either case
abbrev pub ends : List ℕ → Bool
ends text =
    str_eq_ignore_ascii_case text (codes "resign")
    || str_eq_ignore_ascii_case text (codes "forfeit")

abbrev pub has_end : List Entry → Bool
has_end entries = list_any (λ e. ends e.text) entries

-- a move in the node ends the line
abbrev pub is_last : Node → Bool
is_last node = has_end (entries_in node)

-- up to the first node that ends the line, with that node
abbrev pub up_to_end : List Node → List Node
up_to_end [] = []
up_to_end (node ∷ nodes) = node ∷ (if is_last node then [] else up_to_end nodes)

-- the nodes that are read
abbrev pub line_of : GameTrees → List Node
line_of trees = up_to_end (main_line trees)
