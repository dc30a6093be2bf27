use Rattle.std.proofs.Common.{◌≡◌, ◌+◌, cond, length, drop, flat_map}
use Rattle.sgf_game.specs.Lines.{entries_if, entries_in}
use Rattle.sgf_game.proofs.turns.has_one_move.Given as goal

abbrev pub invariant-loop-prop : goal.invariant-loop-prop
invariant-loop-prop l
    = cond l.found 1 0 + length (flat_map entries_if (drop l.prop-index l.node.props)) ≡ length
    (entries_in l.node)
