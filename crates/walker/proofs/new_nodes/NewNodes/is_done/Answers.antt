-- No node is left if no cell is.
use Rattle.std.proofs.Common.{ap, sym, ◌∙◌}
use Rattle.walker.proofs.NodeCells.{by-number-none, by-number-empty}
use Rattle.walker.specs.NewNodes.{NewNodesData}
use Rattle.walker.proofs.new_nodes.NewNodes.is_done.Goals as goal

pub returns : goal.returns
returns c =
    let cells = ap (λ (d : NewNodesData). d.cells) c.self.view_is in (
      λ t. sym cells ∙ by-number-none c.self.inside.left (c.is_empty.ensures.0 t),
      λ e. c.is_empty.ensures.1
          (by-number-empty c.self.inside.left c.keeps.ensures.range (cells ∙ e)),
    )
