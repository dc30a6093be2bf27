use Rattle.std.proofs.Common.{◌∙◌}
use Rattle.hex_plan.proofs.Rows.{turn_rows_on}
use Rattle.hex_plan.proofs.report_texts.tree_text.Goals as goal

-- the rows are those of a closed tree on a board of this size
pub push_rows-requires : goal.push_rows-requires
push_rows-requires c =
    let tree = c.args.closed.now in
    turn_rows_on tree.shape tree.words c.args.size c.deref.result.now c.keeps.ensures.setting c.keeps.ensures.closed c.requires
    (c.deref.ensures.value ∙ c.in-Ok.ensures.rows)
