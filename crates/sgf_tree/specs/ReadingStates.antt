-- Where a `Reading` stands, and what a byte makes of it. No clause of a public call cites this.
use Rattle.std.specs.Prelude.{◌≡◌, ℕ, ◌<◌, ◌≤◌, List, [], ◌∷◌, length, Option, Some, None, Result}
use Rattle.std.specs.Prelude.{Ok, Err}
use Rattle.sgf_tree.specs.declared.lists.Prop.{Prop}
use Rattle.sgf_tree.specs.declared.reading.Place.{Place}
use Rattle.sgf_tree.specs.declared.reading.Place.TheVariants.{Between, Opened, InNode, InName}
use Rattle.sgf_tree.specs.declared.reading.Place.TheVariants.{AfterName, InValue, Escaped}
use Rattle.sgf_tree.specs.declared.reading.Place.TheVariants.{AfterValue}
use Rattle.sgf_tree.specs.declared.reading.ReadingEnd.{ReadingEnd}
use Rattle.sgf_tree.specs.declared.reading.ReadingEnd.TheVariants.{Refused, TooDeep, Memory}
use Rattle.sgf_tree.specs.declared.reading.Parent.{Parent}
use Rattle.sgf_tree.specs.declared.reading.Reading.{Reading}
use Rattle.sgf_tree.specs.Rows.{row}
use Rattle.sgf_tree.specs.Printing.{max_depth}
use Rattle.sgf_tree.specs.Reading.{Branch, Open, State, between, opened, in_node, in_name}
use Rattle.sgf_tree.specs.Reading.{after_name, in_value, escaped, after_value, open_of, step}

-- the parents of a list that begins with the outermost, from the inside, before these
abbrev pub stack : List Parent → List Branch → List Branch
stack [] below = below
stack (p ∷ parents) below =
    stack parents (record { nodes = p.nodes.items; kids = row p.kids.items } ∷ below)

abbrev pub trees_of : Reading → Open
trees_of r =
    record { outer = stack r.outer.items []; nodes = r.nodes.items; kids = row r.kids.items }

abbrev pub state_in_place : Place → Open → List Prop → List ℕ → List (List ℕ) → List ℕ → State
state_in_place Between o props name values value = between o
state_in_place Opened o props name values value = opened o
state_in_place InNode o props name values value = in_node o props
state_in_place InName o props name values value = in_name o props name
state_in_place AfterName o props name values value = after_name o props name
state_in_place InValue o props name values value = in_value o props name values value
state_in_place Escaped o props name values value = escaped o props name values value
state_in_place AfterValue o props name values value = after_value o props name values

-- where a `Reading` stands
abbrev pub state_of : Reading → State
state_of r =
    state_in_place r.place (trees_of r) r.props.items r.name.items r.values.items r.value.items

-- so many trees are open, and no more than may be
abbrev pub IsShallow : Open → Type 0
IsShallow o = length o.outer ≤ max_depth

abbrev pub OpensTooMany : Option State → Type 0
OpensTooMany None = ⊥
OpensTooMany (Some s) = max_depth < length (open_of s).outer

-- A call that is to come from the open trees old to the state next, or to none, ends so.
abbrev pub Comes : Option State → Open → Result (Unit {0}) ReadingEnd → State → Type 0
Comes next old (Ok done) new = (next ≡ Some new) × (IsShallow old → IsShallow (open_of new))
Comes next old (Err Refused) new = next ≡ None
Comes next old (Err TooDeep) new = OpensTooMany next
Comes next old (Err Memory) new = Unit {0}

-- what reading one more byte does
abbrev pub Reads : State → ℕ → Result (Unit {0}) ReadingEnd → State → Type 0
Reads old x result new = Comes (step old x) (open_of old) result new
