use Rattle.hex_plan.specs.TurnTexts.{report_line}
use Rattle.hex_plan.proofs.Lines.{text_end, text_step}
use Rattle.hex_plan.proofs.Rows.{row_on}
use Rattle.hex_plan.proofs.report_texts.push_rows.Goals as goal

pub push_row-requires : goal.push_row-requires
push_row-requires c
    = row_on c.args.size c.args.rows.now c.loop-row.row-index c.row-item.result c.requires c.loop-row-test.true c.row-item.is

pub loop-row-preserved : goal.loop-row-preserved
loop-row-preserved c =
    text_step (report_line c.args.size) c.args.rows.now c.loop-row.row-index c.row-item.result _ c.loop-row.text.items
    c.push_row.new.text.items c.loop-row-test.true c.row-item.is c.loop-row.invariant c.in_ok-push_row.ensures

pub returns : goal.returns
returns c = text_end
    (report_line c.args.size) c.args.rows.now c.loop-row.row-index _ _ c.loop-row-test.false c.loop-row.invariant
