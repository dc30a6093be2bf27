use Rattle.std.proofs.Common.{◌≡◌, drop}
use Rattle.std.specs.List.{list_any}
use Rattle.sgf_game.specs.Lines.{nodes_lent}
use Rattle.sgf_game.specs.Setup.{changes}
use Rattle.sgf_game.proofs.setup.is_changed_late.Given as goal

abbrev pub invariant-loop-node : goal.invariant-loop-node
invariant-loop-node l
    = list_any changes (nodes_lent (drop l.node-index l.behind)) ≡ list_any changes
    (nodes_lent l.behind)
