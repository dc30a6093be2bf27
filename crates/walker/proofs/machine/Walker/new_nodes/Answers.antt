-- A new block has a node for each empty cell.
use Rattle.std.proofs.Common.{ℕ, drop, ap, sym, ◌∙◌, arith}
use Rattle.play_out.specs.Fills.{empties_of}
use Rattle.walker.specs.NewNodes.{NewNodesData}
use Rattle.walker.proofs.NodeCells.{by-number-empties}
use Rattle.walker.proofs.machine.Walker.new_nodes.Goals as goal

pub returns-in-Writing : goal.returns-in-Writing
returns-in-Writing c =
    let is = c.of.ensures in
    let at = ap (λ (d : NewNodesData). d.at) is in
    let place = ap (λ (d : NewNodesData). d.place) is in (
      c.in-Writing.is,
      sym at,
      place,
      record {
        at = omega (arith, at, place, c.saturating_sub-written.ensures, c.if-written.true);
        cells = ap (λ (d : NewNodesData). d.cells) is
            ∙ by-number-empties c.empties.result c.args.self.now.board
            c.keeps.ensures.range.1 c.empties.ensures
            ∙ sym (ap (λ (n : ℕ). drop n (empties_of c.args.self.now.board)) place);
      },
    )
