use Rattle.std.proofs.Common.{◌≡◌, ◌++◌, drop}
use Rattle.sgf_tree.specs.Trees.{trees_size}
use Rattle.sgf_tree.specs.Rows.{row}
use Rattle.sgf_game.specs.Lines.{nodes_lent, main_line, up_to_end, line_of}
use Rattle.sgf_game.proofs.line.line_of.Given as goal

abbrev pub invariant-loop-trees : goal.invariant-loop-trees
invariant-loop-trees l
    = nodes_lent l.line.items ++ up_to_end (main_line (row l.trees)) ≡ line_of l.fn.collection.trees

abbrev pub invariant-loop-node : goal.invariant-loop-node
invariant-loop-node l
    = nodes_lent l.line.items ++ up_to_end
    (drop l.node-index l.tree.nodes ++ main_line l.tree.kids) ≡ line_of l.fn.collection.trees

abbrev pub decreases-loop-trees : goal.decreases-loop-trees
decreases-loop-trees l = trees_size (row l.trees)
