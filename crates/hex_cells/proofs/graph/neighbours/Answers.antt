use Rattle.std.proofs.Common.{ℕ, ◌↔◌, IsTrue}
use Rattle.hex_cells.specs.Sets.{has}
use Rattle.hex_cells.specs.Graph.{Neighbour}
use Rattle.hex_cells.proofs.Beside.{neighbour_test}
use Rattle.hex_cells.proofs.Around.{only_cell}
use Rattle.hex_cells.proofs.graph.neighbours.Goals as goal

pub returns : goal.returns
returns c =
    let g : (d : ℕ) → IsTrue (has c.around.result d) ↔ Neighbour c.args.size c.args.cell d =
    λ d. only_cell _ _ _ _ d _ (λ k. c.with.ensures.items k) (λ k. c.none.ensures.items k)
    (c.around.ensures d) in
    record { graph = g; items = λ d. neighbour_test _ _ _ _ (g d) }
