use Rattle.std.proofs.Common.{subst}
use Rattle.hex_cells.specs.Colours.{other_of}
use Rattle.hex_board.specs.Elements.{PlayerBoard}
use Rattle.hex_board.specs.Wins.{Wins}
use Rattle.look_ahead.proofs.showing.wins_second.Goals as goal

pub returns-then-joined : goal.returns-then-joined
returns-then-joined c shows =
    c.wins_go_on.ensures.joined c.args.player c.args.board.now (other_of c.args.player)
    (c.joined.ensures.path.0 c.if-joined.true)

pub returns : goal.returns
returns c shows =
    let e = c.in_ok-report.report.elements in
    let sure = c.is_sure.ensures shows in
    subst (λ (v : PlayerBoard). Wins v.player v.board (other_of v.player))
    c.in_ok-report.ensures.elements (c.connected_edges_win.ensures.full e e.board sure.0 sure.1)
