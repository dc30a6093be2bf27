use Rattle.std.proofs.Common.{◌≡◌, ◌+◌, ◌++◌, take}
use Rattle.sgf_tree.specs.Trees.{trees_size}
use Rattle.sgf_tree.specs.Rows.{row}
use Rattle.sgf_tree.specs.Printing.{trees_print}
use Rattle.sgf_tree.proofs.printing.+print.Given as goal

abbrev pub decreases-push_trees : goal.decreases-push_trees
decreases-push_trees l = trees_size (row l.trees.now)

abbrev pub decreases-push_tree : goal.decreases-push_tree
decreases-push_tree l = trees_size l.tree.now.kids + 1

abbrev pub invariant-push_trees-loop-tree : goal.invariant-push_trees-loop-tree
invariant-push_trees-loop-tree l = l.out.items ≡ l.initial.out.items ++ trees_print
    (row (take l.tree-index l.trees))
