-- The text that is printed: no white space between tokens, and in a value a backslash before each
-- `]` and each backslash.
use Rattle.std.specs.Prelude.{ℕ, List, [], ◌∷◌, ◌++◌, ◌==◌, ◌||◌, if◌then◌else◌, flat_map}
use Rattle.sgf_tree.specs.declared.lists.Prop.{Prop}
use Rattle.sgf_tree.specs.declared.lists.Node.{Node}
use Rattle.sgf_tree.specs.Trees.{GameTrees, none, tree}
use Rattle.sgf_tree.specs.Grammar.{IsFilled, IsName, HasTree}

abbrev pub byte_print : ℕ → List ℕ
byte_print x = if (x == 92) || (x == 93) then 92 ∷ x ∷ [] else x ∷ []

abbrev pub value_print : List ℕ → List ℕ
value_print value = 91 ∷ (flat_map byte_print value ++ 93 ∷ [])

abbrev pub prop_print : Prop → List ℕ
prop_print p = p.name ++ flat_map value_print p.values

abbrev pub node_print : Node → List ℕ
node_print node = 59 ∷ flat_map prop_print node.props

abbrev pub trees_print : GameTrees → List ℕ
trees_print none = []
trees_print (tree nodes kids others) =
    (40 ∷ (flat_map node_print nodes ++ trees_print kids ++ 41 ∷ [])) ++ trees_print others

-- ---- what has a text

abbrev pub HaveTexts : List Prop → Type 0
HaveTexts [] = Unit {0}
HaveTexts (p ∷ props) = IsName p.name × IsFilled p.values × HaveTexts props

abbrev pub NodesHaveTexts : List Node → Type 0
NodesHaveTexts [] = Unit {0}
NodesHaveTexts (node ∷ nodes) = HaveTexts node.props × NodesHaveTexts nodes

abbrev pub TreesHaveTexts : GameTrees → Type 0
TreesHaveTexts none = Unit {0}
TreesHaveTexts (tree nodes kids others) =
    IsFilled nodes × NodesHaveTexts nodes × TreesHaveTexts kids × TreesHaveTexts others

-- A collection has a text: at least one tree, a node in each tree, a name of capital letters and a
-- value in each property.
abbrev pub HasText : GameTrees → Type 0
HasText trees = HasTree trees × TreesHaveTexts trees

-- how deep the trees of a collection may nest
abbrev pub max_depth : ℕ
max_depth = 64
