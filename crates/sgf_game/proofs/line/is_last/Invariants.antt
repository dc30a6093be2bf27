use Rattle.std.proofs.Common.{◌≡◌, drop}
use Rattle.sgf_game.specs.Lines.{is_last}
use Rattle.sgf_game.proofs.line.is_last.Given as goal

abbrev pub invariant-loop-prop : goal.invariant-loop-prop
invariant-loop-prop l = is_last record { props = drop l.prop-index l.node.props } ≡ is_last l.node
