use Rattle.std.proofs.Common.{◌+◌, ◌∙◌, ap, arith, take}
use Rattle.play_out.proofs.Quads.{bits_counted, four_listed, written}
use Rattle.play_out.proofs.fours.list_four.Goals as goal

pub returns-clause-list : goal.returns-clause-list
returns-clause-list c =
    ap (λ n. take (c.args.count + n) (written c.args.cells.now c.args.count c.numbered.result c.numbered-2.result c.numbered-3.result c.numbered-4.result))
    (bits_counted c.args.four c.requires.bits)
    ∙ four_listed c.args.cells.now c.args.count c.args.first c.args.four c.numbered.result c.numbered-2.result c.numbered-3.result c.numbered-4.result
    c.row.result c.row.ensures
    (omega (arith, c.told-cells, c.requires.room)) c.numbered.ensures c.numbered-2.ensures c.numbered-3.ensures c.numbered-4.ensures

pub returns-clause-count : goal.returns-clause-count
returns-clause-count c = ap (λ n. c.args.count + n) (bits_counted c.args.four c.requires.bits)
