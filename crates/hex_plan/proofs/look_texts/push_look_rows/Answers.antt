use Rattle.hex_plan.specs.TurnTexts.{look_line}
use Rattle.hex_plan.proofs.Lines.{text_end, text_step}
use Rattle.hex_plan.proofs.look_texts.push_look_rows.Goals as goal

pub rows-preserved : goal.rows-preserved
rows-preserved c =
    text_step (look_line c.args.size) c.args.rows.now c.rows.row-index c.row-item.result _ c.rows.text.items
    c.push_look_row.new.text.items c.rows-test.true c.row-item.is
    c.rows.invariant c.in_ok-push_look_row.ensures

pub returns : goal.returns
returns c = text_end
    (look_line c.args.size) c.args.rows.now c.rows.row-index _ _ c.rows-test.false c.rows.invariant
