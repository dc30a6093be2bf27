use Rattle.std.proofs.Common.{arith}
use Rattle.std.proofs.lemmas.Grind.{common_steps}
use Rattle.sgf_tree.proofs.RowLaws.{kid_falls, trees_print-append}
use Rattle.sgf_tree.proofs.printing.+print.Goals as goal

pub push_trees-push_tree-requires : goal.push_trees-push_tree-requires
push_trees-push_tree-requires t c
    = let smaller
    = kid_falls c.args.trees.now c.loop-tree.tree-index c.tree-item.result c.loop-tree-test.true
    (grind arith) in
    (grind (arith, smaller), tt)

pub push_trees-loop-tree-preserved : goal.push_trees-loop-tree-preserved
push_trees-loop-tree-preserved t c = grind (arith, common_steps, trees_print-append)
