use Rattle.hex_cells.proofs.Naming.{no_text, no_letter, no_number, is_place}
use Rattle.hex_cells.proofs.vertices.place_of.Goals as goal

pub returns-then-text-eq0 : goal.returns-then-text-eq0
returns-then-text-eq0 c = λ k r h l. no_text c.args.text.now _ _ c.if-text-eq0.true

pub returns-in_err-column : goal.returns-in_err-column
returns-in_err-column c
    = rw c.from_residual.ensures
    (no_letter c.args.text.now c.if-text-eq0.false c.in_err-column.ensures)

pub returns-in_err-number : goal.returns-in_err-number
returns-in_err-number c
    = rw c.from_residual-in_err-number.ensures
    (no_number c.args.text.now c.if-text-eq0.false c.in_err-number.ensures)

pub returns : goal.returns
returns c = is_place c.args.text.now c.in_ok-column.column c.in_ok-number.number c.if-text-eq0.false c.in_ok-column.ensures
    c.in_ok-number.ensures.0 c.in_ok-number.ensures.1 c.in_ok-number.ensures.2
