use Rattle.std.proofs.Common.{◌≡◌, drop}
use Rattle.sgf_game.specs.Values.{has_named}
use Rattle.sgf_game.proofs.values.has_named.Given as goal

abbrev pub invariant-loop-prop : goal.invariant-loop-prop
invariant-loop-prop l
    = has_named l.name record { props = drop l.prop-index l.node.props } ≡ has_named l.name l.node
