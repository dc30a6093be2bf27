-- The grammar of SGF text, FF[4]. Each fact says that the bytes `from` begin with a text of
-- something, and that the bytes `rest` follow it.
use Rattle.std.specs.Prelude.{◌≡◌, ◌≢◌, ℕ, List, [], ◌∷◌, ◌++◌, Bool, IsTrue, ◌==◌, ◌||◌, ◌&&◌}
use Rattle.std.specs.Prelude.{nat_le, ◌⊎◌}
use Rattle.std.specs.List.{AllByRecursion}
use Rattle.sgf_tree.specs.declared.lists.Prop.{Prop}
use Rattle.sgf_tree.specs.declared.lists.Node.{Node}
use Rattle.sgf_tree.specs.Trees.{GameTrees, none, tree}

-- white space is bytes 9 to 13 and 32
abbrev pub is_white_space : ℕ → Bool
is_white_space x = (nat_le 9 x && nat_le x 13) || (x == 32)

-- the letters A to Z
abbrev pub is_capital : ℕ → Bool
is_capital x = nat_le 65 x && nat_le x 90

-- there is at least one
abbrev pub IsFilled : {A : Type 0} → List A → Type 0
IsFilled [] = ⊥
IsFilled (x ∷ xs) = Unit {0}

-- a property's name: at least one byte, each a capital letter
abbrev pub IsName : List ℕ → Type 0
IsName name = IsFilled name × AllByRecursion (λ x. IsTrue (is_capital x)) name

-- any number of white space bytes, also none
abbrev pub Gap : List ℕ → List ℕ → Type 0
Gap [] rest = [] ≡ rest
Gap (x ∷ from) rest = (x ∷ from ≡ rest) ⊎ (IsTrue (is_white_space x) × Gap from rest)

-- a byte of a value: itself, if it is neither a backslash nor `]`, or a backslash and the byte,
-- whichever it is
abbrev pub ByteText : ℕ → List ℕ → List ℕ → Type 0
ByteText x from rest = ((x ≢ 92) × (x ≢ 93) × (from ≡ x ∷ rest)) ⊎ (from ≡ 92 ∷ x ∷ rest)

-- what stands in a value behind its `[`: a text of each of its bytes, in order, and then `]`
abbrev pub ContentText : List ℕ → List ℕ → List ℕ → Type 0
ContentText [] from rest = from ≡ 93 ∷ rest
ContentText (x ∷ value) from rest =
    (more : List ℕ) × ByteText x from more × ContentText value more rest

abbrev pub ValueText : List ℕ → List ℕ → List ℕ → Type 0
ValueText value from rest =
    (content : List ℕ) × (from ≡ 91 ∷ content) × ContentText value content rest

-- for each value, in order, a text of it and a gap
abbrev pub ValuesText : List (List ℕ) → List ℕ → List ℕ → Type 0
ValuesText [] from rest = from ≡ rest
ValuesText (value ∷ values) from rest =
    (gap : List ℕ) × (more : List ℕ) × ValueText value from gap × Gap gap more
    × ValuesText values more rest

-- a name and a gap, and then at least one value
abbrev pub PropText : Prop → List ℕ → List ℕ → Type 0
PropText p from rest =
    (gap : List ℕ) × (more : List ℕ) × IsName p.name × IsFilled p.values × (from ≡ p.name ++ gap)
    × Gap gap more × ValuesText p.values more rest

-- a text of each property, in order
abbrev pub PropsText : List Prop → List ℕ → List ℕ → Type 0
PropsText [] from rest = from ≡ rest
PropsText (p ∷ props) from rest = (more : List ℕ) × PropText p from more × PropsText props more rest

-- `;` and a gap, and then its properties
abbrev pub NodeText : Node → List ℕ → List ℕ → Type 0
NodeText node from rest =
    (gap : List ℕ) × (more : List ℕ) × (from ≡ 59 ∷ gap) × Gap gap more
    × PropsText node.props more rest

-- a text of each node, in order
abbrev pub NodesText : List Node → List ℕ → List ℕ → Type 0
NodesText [] from rest = from ≡ rest
NodesText (node ∷ nodes) from rest =
    (more : List ℕ) × NodeText node from more × NodesText nodes more rest

-- For each tree, in order, `(` and a gap, at least one node, its kids, `)` and a gap.
abbrev pub TreesText : GameTrees → List ℕ → List ℕ → Type 0
TreesText none from rest = from ≡ rest
TreesText (tree nodes kids others) from rest =
    (gap : List ℕ) × (line : List ℕ) × (under : List ℕ) × (behind : List ℕ) × (more : List ℕ)
    × IsFilled nodes × (from ≡ 40 ∷ gap) × Gap gap line × NodesText nodes line under
    × TreesText kids under (41 ∷ behind) × Gap behind more × TreesText others more rest

-- there is at least one tree
abbrev pub HasTree : GameTrees → Type 0
HasTree none = ⊥
HasTree (tree nodes kids others) = Unit {0}

-- The bytes are a text of the collection of these trees: a gap, and then at least one tree.
abbrev pub Text : GameTrees → List ℕ → Type 0
Text trees bytes = (more : List ℕ) × HasTree trees × Gap bytes more × TreesText trees more []
