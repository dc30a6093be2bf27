use Rattle.std.proofs.Common.{◌≡◌, drop}
use Rattle.sgf_game.specs.Setup.{cells_named}
use Rattle.sgf_game.specs.Placing.{placed_on}
use Rattle.sgf_game.proofs.setup.stones_named.Given as goal

abbrev pub invariant-loop-prop : goal.invariant-loop-prop
invariant-loop-prop l
    = placed_on l.taken l.stones
    (cells_named l.size l.name record { props = drop l.prop-index l.root.props })
    ≡ placed_on l.taken 0 (cells_named l.size l.name l.root)
