use Rattle.std.proofs.Common.{◌∙◌, arith}
use Rattle.hex_cells.proofs.Digits.{front_then, vertex_is}
use Rattle.hex_cells.proofs.vertices.write_vertex.Goals as goal

pub returns-clause-text : goal.returns-clause-text
returns-clause-text c = front_then c.args.out.now c.write_decimal.new.out _ c.write_decimal.result
    (omega arith) (omega arith)
    ∙ vertex_is c.args.size c.args.cell c.column.result c.row.result _ c.column.ensures.value c.row.ensures.value c.write_decimal.ensures.text
