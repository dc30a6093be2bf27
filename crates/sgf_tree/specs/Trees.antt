-- What a contract sees of trees.
use Rattle.std.specs.Prelude.{◌≡◌, ℕ, ◌+◌, List, [], ◌∷◌, Option, Some, None, max, refl}
use Rattle.std.proofs.Common.{ap, ◌∙◌}
use Rattle.std.specs.Coded.{Coded, code_by, coded×, coded_ℕ, coded_list, coded_option}
use Rattle.sgf_tree.specs.declared.lists.Prop.{Prop}
use Rattle.sgf_tree.specs.declared.lists.Node.{Node}

-- Trees beside each other: none, or a first tree, of some nodes and the kids that go on from them,
-- and the trees after it.
pub data GameTrees : Type 0 where
  none : GameTrees
  tree : List Node → GameTrees → GameTrees → GameTrees

-- How deep the trees nest: a tree is one deeper than its kids.
abbrev pub depth : GameTrees → ℕ
depth none = 0
depth (tree nodes kids rest) = max (1 + depth kids) (depth rest)

-- how many trees there are, each with one more for the list of its kids
abbrev pub trees_size : GameTrees → ℕ
trees_size none = 0
trees_size (tree nodes kids rest) = 2 + trees_size kids + trees_size rest

-- ---- how the logic stores trees: each list of nodes before what stands under and after it, None
-- for no tree

abbrev spread : GameTrees → List (Option (List Node)) → List (Option (List Node))
spread none after = None ∷ after
spread (tree nodes kids rest) after = Some nodes ∷ spread kids (spread rest after)

abbrev joined : List Node → List GameTrees → List GameTrees
joined nodes [] = []
joined nodes (kids ∷ []) = []
joined nodes (kids ∷ rest ∷ more) = tree nodes kids rest ∷ more

abbrev gathered : List (Option (List Node)) → List GameTrees
gathered [] = []
gathered (None ∷ marks) = none ∷ gathered marks
gathered (Some nodes ∷ marks) = joined nodes (gathered marks)

abbrev first_of_all : List GameTrees → GameTrees
first_of_all [] = none
first_of_all (trees ∷ more) = trees

pub gathered-spread : (trees : GameTrees) (after : List (Option (List Node)))
    → gathered (spread trees after) ≡ trees ∷ gathered after
gathered-spread none after = refl
gathered-spread (tree nodes kids rest) after =
    ap (joined nodes) (gathered-spread kids (spread rest after))
    ∙ ap (λ more. joined nodes (kids ∷ more)) (gathered-spread rest after)

abbrev pairs_of : List Prop → List (List ℕ × List (List ℕ))
pairs_of [] = []
pairs_of (p ∷ ps) = (p.name, p.values) ∷ pairs_of ps

abbrev props_of : List (List ℕ × List (List ℕ)) → List Prop
props_of [] = []
props_of (p ∷ ps) = record { name = p.0; values = p.1 } ∷ props_of ps

pub props_of-pairs_of : (props : List Prop) → props_of (pairs_of props) ≡ props
props_of-pairs_of [] = refl
props_of-pairs_of (p ∷ ps) = ap (λ qs. p ∷ qs) (props_of-pairs_of ps)

abbrev node_code : Coded Node
node_code =
    code_by (List (List ℕ × List (List ℕ)))
    (coded_list (coded× (coded_list coded_ℕ) (coded_list (coded_list coded_ℕ))))
    (λ n. pairs_of n.props) (λ ps. record { props = props_of ps })
    (λ n. ap (λ ps. record { props = ps }) (props_of-pairs_of n.props))

abbrev pub trees_code : Coded GameTrees
trees_code =
    code_by (List (Option (List Node))) (coded_list (coded_option (coded_list node_code)))
    (λ trees. spread trees []) (λ marks. first_of_all (gathered marks))
    (λ trees. ap first_of_all (gathered-spread trees []))
