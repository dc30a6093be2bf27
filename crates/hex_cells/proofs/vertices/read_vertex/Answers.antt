use Rattle.std.proofs.Common.{ℕ, ◌<◌, sym, arith}
use Rattle.hex_cells.specs.Vertices.{IsVertex}
use Rattle.hex_cells.proofs.Naming.{cell_found, no_cell, is_vertex, no_place, off_place}
use Rattle.hex_cells.proofs.vertices.read_vertex.Goals.{else-column-n-via-then-column-n+else-row-n}
use Rattle.hex_cells.proofs.vertices.read_vertex.Goals.{else-column-n-via-else-column-n}
use Rattle.hex_cells.proofs.vertices.read_vertex.Goals as goal

pub returns-in_err-column : goal.returns-in_err-column
returns-in_err-column c =
    let f : (k : ℕ) → ¬ (IsVertex c.args.size c.args.text.now k)
    = no_place c.args.size c.args.text.now (omega arith) c.in_err-column.ensures in
    rw c.from_residual.ensures
    (record { value = sym (no_cell c.args.size c.args.text.now f); cell = tt; none = f })

pub returns-then-row-n : goal.returns-then-row-n
returns-then-row-n c =
    let v : IsVertex c.args.size c.args.text.now c.at.result
    = is_vertex c.args.size c.in_ok-column.column c.in_ok-column.row c.at.result c.args.text.now
    (omega arith) c.at.ensures.value c.at.ensures.on_board c.in_ok-column.ensures.1 in
    record { value = sym (cell_found c.args.size c.at.result c.args.text.now (omega arith) v); cell = v; none = tt }

pub returns-else-column-n : goal.returns-else-column-n
returns-else-column-n c =
    let o : c.in_ok-column.column < c.args.size → c.in_ok-column.row < c.args.size → ⊥
    = elim c.else-column-n.branch [
      | else-column-n-via-then-column-n+else-row-n w ↦ λ h l. absurd (omega arith)
      | else-column-n-via-else-column-n w ↦ λ h l. absurd (omega arith)
    ] in
    let f : (k : ℕ) → ¬ (IsVertex c.args.size c.args.text.now k)
    = off_place c.args.size c.in_ok-column.column c.in_ok-column.row c.args.text.now
    (omega arith) c.in_ok-column.ensures.0 c.in_ok-column.ensures.1 o in
    record { value = sym (no_cell c.args.size c.args.text.now f); cell = tt; none = f }
