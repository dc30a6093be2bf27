-- The end: an edge, or the least cell of an element that holds none.
use Rattle.std.proofs.Common.{◌≡◌, ℕ, ◌<◌, true, false}
use Rattle.hex_cells.specs.Sets.{has}
use Rattle.win_cert.proofs.CutEnds.{cell_end, some_case}
use Rattle.win_cert.proofs.cutting.end_of.Goals as goal

pub returns : goal.returns
returns c =
    let s : ℕ = c.cells.result in
    let least = some_case ((k : ℕ) → has s k ≡ false)
    (λ v. (has s v ≡ true) × ((k : ℕ) → k < v → has s k ≡ false)) c.least.result c.unwrap.result c.least.ensures c.unwrap.ensures in
    cell_end c.args.elements.now c.args.element c.unwrap.result c.requires.stones
    ((c.cells.ensures c.unwrap.result).0 least.0)
