-- The reader's lists of open trees, and their view.
use Rattle.std.proofs.Common.{◌≡◌, ◌+◌, List, [], ◌∷◌, ◌++◌, length, refl, ap, arith}
use Rattle.sgf_tree.specs.declared.reading.Parent.{Parent}
use Rattle.sgf_tree.specs.declared.trees.Tree.{Tree}
use Rattle.sgf_tree.specs.Trees.{none, tree}
use Rattle.sgf_tree.specs.Rows.{row}
use Rattle.sgf_tree.specs.Reading.{Branch, join}
use Rattle.sgf_tree.specs.ReadingStates.{stack}

pub stack-push : (parents : List Parent) (p : Parent) (below : List Branch)
    → stack (parents ++ p ∷ []) below ≡ record { nodes = p.nodes.items; kids = row p.kids.items } ∷ stack parents below
stack-push [] p below = refl
stack-push (x ∷ parents) p below
    = stack-push parents p (record { nodes = x.nodes.items; kids = row x.kids.items } ∷ below)

pub length-stack : (parents : List Parent) (below : List Branch)
    → length (stack parents below) ≡ length parents + length below
length-stack [] below = omega arith
length-stack (x ∷ parents) below
    = omega (arith, length-stack parents (record { nodes = x.nodes.items; kids = row x.kids.items } ∷ below))

pub row-push : (trees : List Tree) (t : Tree)
    → row (trees ++ t ∷ []) ≡ join (row trees) (tree t.nodes t.kids none)
row-push [] t = refl
row-push (x ∷ trees) t = ap (λ more. tree x.nodes x.kids more) (row-push trees t)
