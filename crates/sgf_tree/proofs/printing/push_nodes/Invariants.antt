use Rattle.std.proofs.Common.{◌≡◌, ◌++◌, flat_map, take}
use Rattle.sgf_tree.specs.Printing.{node_print}
use Rattle.sgf_tree.proofs.printing.push_nodes.Given as goal

abbrev pub invariant-loop-node : goal.invariant-loop-node
invariant-loop-node l = l.out.items ≡ l.initial.out.items ++ flat_map node_print
    (take l.node-index l.nodes)
