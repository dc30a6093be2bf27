-- The values of a node's properties.
use Rattle.std.specs.Prelude.{ℕ, Bool, List, [], ◌∷◌, Option, reverse, map, flat_map}
use Rattle.std.specs.Prelude.{if◌then◌else◌}
use Rattle.std.specs.List.{list_any, slice_get}
use Rattle.std.specs.Str.{bytes_eq}
use Rattle.sgf_tree.specs.declared.lists.Prop.{Prop}
use Rattle.sgf_tree.specs.declared.lists.Node.{Node}
use Rattle.sgf_tree.specs.Grammar.{is_white_space}

-- without the white space at its start
abbrev pub without_front_space : List ℕ → List ℕ
without_front_space [] = []
without_front_space (x ∷ text) = if is_white_space x then without_front_space text else x ∷ text

-- without the white space at both ends
abbrev pub trimmed : List ℕ → List ℕ
trimmed text = reverse (without_front_space (reverse (without_front_space text)))

-- the node has a property of this name
abbrev pub has_named : List ℕ → Node → Bool
has_named name node = list_any (λ p. bytes_eq p.name name) node.props

abbrev pub values_if : List ℕ → Prop → List (List ℕ)
values_if name p = if bytes_eq p.name name then map trimmed p.values else []

-- the values that the node has under this name, in the order in which they stand
abbrev pub values_named : List ℕ → Node → List (List ℕ)
values_named name node = flat_map (values_if name) node.props

-- the first value that the node has under this name
abbrev pub first_named : List ℕ → Node → Option (List ℕ)
first_named name node = slice_get (values_named name node) 0
