use Rattle.std.proofs.Common.{◌∙◌}
use Rattle.cert_check.proofs.LiftTests.{cell_there, end_by_cell, least_found}
use Rattle.cert_check.proofs.lifting.end_for.Goals as goal

pub returns-in-Some-clause-value : goal.returns-in-Some-clause-value
returns-in-Some-clause-value c =
    let e = c.args.elements.now in
    end_by_cell e c.args.element c.edge.ensures.value c.edge-2.ensures.value c.if-element-edge.false c.if-element-edge-2.false
    (least_found e c.args.element c.cells.result c.least.result c.requires.own c.cells.ensures c.least.ensures ∙ c.in-Some.is)

pub returns-in-Some-clause-on_board : goal.returns-in-Some-clause-on_board
returns-in-Some-clause-on_board c =
    cell_there c.args.elements.now c.args.element c.in-Some.cell c.requires.own
    ((c.cells.ensures c.in-Some.cell).0 c.in-Some.ensures.0)

pub returns-in-None-clause-value : goal.returns-in-None-clause-value
returns-in-None-clause-value c =
    let e = c.args.elements.now in
    end_by_cell e c.args.element c.edge.ensures.value c.edge-2.ensures.value c.if-element-edge.false c.if-element-edge-2.false
    (least_found e c.args.element c.cells.result c.least.result c.requires.own c.cells.ensures c.least.ensures ∙ c.in-None.is)
