use Rattle.std.proofs.Common.{◌≡◌, ◌++◌, drop}
use Rattle.hex_plan.specs.TurnTexts.{report_lines}
use Rattle.hex_plan.proofs.report_texts.push_rows.Given as goal

abbrev pub invariant-loop-row : goal.invariant-loop-row
invariant-loop-row l
    = l.text.items ++ report_lines l.size
    (drop l.row-index l.rows) ≡ l.fn.text.items ++ report_lines l.size l.rows
