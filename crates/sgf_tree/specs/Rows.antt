-- The trees of a slice.
use Rattle.std.specs.Prelude.{List, [], ◌∷◌}
use Rattle.sgf_tree.specs.declared.trees.Tree.{Tree}
use Rattle.sgf_tree.specs.Trees.{GameTrees, none, tree}

-- the trees of a list, in its order
abbrev pub row : List Tree → GameTrees
row [] = none
row (t ∷ ts) = tree t.nodes t.kids (row ts)
