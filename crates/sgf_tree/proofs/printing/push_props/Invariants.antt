use Rattle.std.proofs.Common.{◌≡◌, ◌++◌, flat_map, take}
use Rattle.sgf_tree.specs.Printing.{prop_print}
use Rattle.sgf_tree.proofs.printing.push_props.Given as goal

abbrev pub invariant-loop-prop : goal.invariant-loop-prop
invariant-loop-prop l = l.out.items ≡ l.initial.out.items ++ flat_map prop_print
    (take l.prop-index l.props)
