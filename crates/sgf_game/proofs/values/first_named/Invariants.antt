use Rattle.std.proofs.Common.{◌≡◌, drop}
use Rattle.sgf_game.specs.Values.{first_named}
use Rattle.sgf_game.proofs.values.first_named.Given as goal

abbrev pub invariant-loop-prop : goal.invariant-loop-prop
invariant-loop-prop l
    = first_named l.name record { props = drop l.prop-index l.node.props } ≡ first_named l.name l.node
