use Rattle.std.proofs.Common.{◌≡◌, ◌++◌, flat_map, take}
use Rattle.sgf_tree.specs.Printing.{byte_print}
use Rattle.sgf_tree.proofs.printing.push_content.Given as goal

abbrev pub invariant-loop-byte : goal.invariant-loop-byte
invariant-loop-byte l = l.out.items ≡ l.initial.out.items ++ flat_map byte_print
    (take l.byte-index l.value)
