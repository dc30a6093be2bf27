use Rattle.look_ahead.proofs.FreeCells.{line_goes_on}
use Rattle.look_ahead.proofs.searches.Look.line_of.Goals as goal

pub moves-preserved : goal.moves-preserved
moves-preserved c =
    line_goes_on c.args.board.now c.args.cell c.in-Some.kid.cell c.moves.free
    c.without-free-in-moves.result c.moves.line.items c.push.new.self.items c.moves.invariant
    c.in-Some.ensures c.in_ok-push.ensures.items c.without-free-in-moves.ensures.items
