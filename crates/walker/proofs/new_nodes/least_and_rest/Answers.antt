-- The least cell is the first.
use Rattle.std.proofs.Common.{arith}
use Rattle.walker.proofs.NodeCells.{by-number-none, by-number-least}
use Rattle.walker.proofs.new_nodes.least_and_rest.Goals as goal

pub unreachable-requires : goal.unreachable-requires
unreachable-requires c = c.requires (by-number-none c.args.cells c.in-None.ensures)

pub returns : goal.returns
returns c = by-number-least c.args.cells c.without.result c.in-Some.cell
    (omega (arith, c.number-number.ensures.value, c.number-number.ensures.range)) c.in-Some.ensures.0 c.in-Some.ensures.1 c.without.ensures.items
