use Rattle.std.proofs.Common.{subst}
use Rattle.hex_board.specs.Elements.{PlayerBoard}
use Rattle.hex_board.specs.Wins.{Wins}
use Rattle.look_ahead.proofs.showing.wins_first.Goals as goal

pub returns : goal.returns
returns c shows =
    let e = c.in_ok-report.report.elements in
    let sure = c.is_sure.ensures shows in
    subst (λ (v : PlayerBoard). Wins v.player v.board v.player) c.in_ok-report.ensures.elements
    (c.connected_edges_win.ensures.semi e e.board sure.0 sure.1)
