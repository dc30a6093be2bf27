-- Each tree of a list is smaller than the list. No clause of a public call cites this.
use Rattle.std.specs.Prelude.{◌≤◌, max, List, [], ◌∷◌}
use Rattle.std.proofs.Common.{arith}
use denote.Param.Weighed.{most}
use Rattle.sgf_tree.specs.declared.trees.Tree.{Tree}
use Rattle.sgf_tree.specs.declared.trees.Trees.TheDeep.{deep-Tree}
use Rattle.sgf_tree.specs.Trees.{trees_size}
use Rattle.sgf_tree.specs.Rows.{row}

pub row_falls : (ts : List Tree) → max (most deep-Tree ts) 0 ≤ trees_size (row ts)
row_falls [] = omega arith
row_falls (t ∷ ts) = omega (arith, row_falls ts)
