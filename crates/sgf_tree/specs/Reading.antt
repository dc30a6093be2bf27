-- How the reader goes, a byte at a time, for private clauses: where it stands between the bytes,
-- and what one byte makes of that.
use Rattle.std.specs.Prelude.{ℕ, ◌+◌, max, length, List, [], ◌∷◌, ◌++◌, Option, Some, None, cond}
use Rattle.std.specs.Prelude.{◌==◌}
use Rattle.sgf_tree.specs.declared.lists.Prop.{Prop}
use Rattle.sgf_tree.specs.declared.lists.Node.{Node}
use Rattle.sgf_tree.specs.Trees.{GameTrees, none, tree, depth}
use Rattle.sgf_tree.specs.Grammar.{is_white_space, is_capital}

-- the trees of the first list and then those of the second
abbrev pub join : GameTrees → GameTrees → GameTrees
join none after = after
join (tree nodes kids others) after = tree nodes kids (join others after)

-- what has been read of an open tree
pub record Branch : Type 0 where
  pub nodes : List Node
  pub kids : GameTrees

-- The open trees: what has been read of the innermost, and then the others, from the inside.
-- Outside of all trees, the kids are the outermost trees.
pub record Open : Type 0 where
  pub outer : List Branch
  pub nodes : List Node
  pub kids : GameTrees

-- where the reader stands
pub data State : Type 0 where
  -- at the beginning, or after a tree
  between : Open → State
  -- after `(`
  opened : Open → State
  -- in a node, after `;`, with the properties so far
  in_node : Open → List Prop → State
  -- within a name
  in_name : Open → List Prop → List ℕ → State
  -- after a name and white space
  after_name : Open → List Prop → List ℕ → State
  -- within a value, after other values
  in_value : Open → List Prop → List ℕ → List (List ℕ) → List ℕ → State
  -- within a value, after a backslash
  escaped : Open → List Prop → List ℕ → List (List ℕ) → List ℕ → State
  -- after a value
  after_value : Open → List Prop → List ℕ → List (List ℕ) → State

-- the open trees of a state
abbrev pub open_of : State → Open
open_of (between o) = o
open_of (opened o) = o
open_of (in_node o props) = o
open_of (in_name o props name) = o
open_of (after_name o props name) = o
open_of (in_value o props name values value) = o
open_of (escaped o props name values value) = o
open_of (after_value o props name values) = o

abbrev pub open_tree : Open → Open
open_tree o =
    record { outer = record { nodes = o.nodes; kids = o.kids } ∷ o.outer; nodes = []; kids = none }

abbrev pub add_node : Open → List Prop → Open
add_node o props =
    record { outer = o.outer; nodes = o.nodes ++ record { props = props } ∷ []; kids = o.kids }

abbrev pub close_into : List Branch → List Node → GameTrees → Option State
close_into [] nodes kids = None
close_into (b ∷ outer) nodes kids =
    Some (between
    (record { outer = outer; nodes = b.nodes; kids = join b.kids (tree nodes kids none) }))

-- `(` opens a tree, and `)` closes one
abbrev pub turn : Open → ℕ → Option State
turn o x =
    cond (x == 40) (Some (opened (open_tree o)))
    (cond (x == 41) (close_into o.outer o.nodes o.kids) None)

-- what may follow a property, beside another value: a letter begins a name, and anything else ends
-- the node
abbrev pub go_on : Open → List Prop → ℕ → Option State
go_on o props x =
    cond (is_capital x) (Some (in_name o props (x ∷ [])))
    (cond (x == 59) (Some (in_node (add_node o props) [])) (turn (add_node o props) x))

abbrev pub add_prop : List Prop → List ℕ → List (List ℕ) → List Prop
add_prop props name values = props ++ record { name = name; values = values } ∷ []

-- Where the reader stands after one more byte, or None if the byte can't stand there.
abbrev pub step : State → ℕ → Option State
step (between o) x = cond (is_white_space x) (Some (between o)) (turn o x)
step (opened o) x =
    cond (is_white_space x) (Some (opened o)) (cond (x == 59) (Some (in_node o [])) None)
step (in_node o props) x = cond (is_white_space x) (Some (in_node o props)) (go_on o props x)
step (in_name o props name) x =
    cond (is_capital x) (Some (in_name o props (name ++ x ∷ [])))
    (cond (is_white_space x) (Some (after_name o props name))
    (cond (x == 91) (Some (in_value o props name [] [])) None))
step (after_name o props name) x =
    cond (is_white_space x) (Some (after_name o props name))
    (cond (x == 91) (Some (in_value o props name [] [])) None)
step (in_value o props name values value) x =
    cond (x == 92) (Some (escaped o props name values value))
    (cond (x == 93) (Some (after_value o props name (values ++ value ∷ [])))
    (Some (in_value o props name values (value ++ x ∷ []))))
step (escaped o props name values value) x = Some (in_value o props name values (value ++ x ∷ []))
step (after_value o props name values) x =
    cond (is_white_space x) (Some (after_value o props name values))
    (cond (x == 91) (Some (in_value o props name values []))
    (go_on o (add_prop props name values) x))

abbrev pub run_on : Option State → List ℕ → Option State
run_on None bytes = None
run_on (Some s) [] = Some s
run_on (Some s) (x ∷ bytes) = run_on (step s x) bytes

-- where the reader stands after these bytes
abbrev pub run : State → List ℕ → Option State
run s bytes = run_on (Some s) bytes

-- nothing has been read
abbrev pub begin : State
begin = between (record { outer = []; nodes = []; kids = none })

-- the greatest number of trees that were open at once, of these that are open and those that were
-- closed in them
abbrev pub deepest : List Branch → GameTrees → ℕ
deepest [] kids = depth kids
deepest (b ∷ outer) kids = max (length (b ∷ outer) + depth kids) (deepest outer b.kids)

abbrev pub deepest_of : State → ℕ
deepest_of s = deepest (open_of s).outer (open_of s).kids
