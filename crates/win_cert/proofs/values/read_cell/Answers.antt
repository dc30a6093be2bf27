use Rattle.std.proofs.Common.{ap, sym, ◌∙◌, true, false}
use Rattle.std.specs.Str.{bytes_eq}
use Rattle.win_cert.proofs.CellWords.{cell_found, no_cell}
use Rattle.win_cert.proofs.values.read_cell.Goals as goal

pub returns-in_err-cell : goal.returns-in_err-cell
returns-in_err-cell c =
    c.from_residual.ensures
    ∙ sym (no_cell c.args.size c.args.word.now (sym c.in_err-cell.ensures.value))

pub returns-then-eq : goal.returns-then-eq
returns-then-eq c =
    let word = c.args.word.now in
    sym (cell_found c.args.size word c.in_ok-cell.cell true (sym c.in_ok-cell.ensures.value) c.in_ok-cell.ensures.cell.0
    (sym (ap (bytes_eq word) c.write_vertex-length.ensures.text) ∙ sym c.eq.ensures ∙ c.if-eq.true))

pub returns-else-eq : goal.returns-else-eq
returns-else-eq c =
    let word = c.args.word.now in
    sym (cell_found c.args.size word c.in_ok-cell.cell false (sym c.in_ok-cell.ensures.value) c.in_ok-cell.ensures.cell.0
    (sym (ap (bytes_eq word) c.write_vertex-length.ensures.text) ∙ sym c.eq.ensures ∙ c.if-eq.false))
