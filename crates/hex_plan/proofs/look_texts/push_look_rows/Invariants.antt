use Rattle.std.proofs.Common.{◌≡◌, ◌++◌, drop}
use Rattle.std.specs.List.{flat_map}
use Rattle.hex_plan.specs.TurnTexts.{look_line}
use Rattle.hex_plan.proofs.look_texts.push_look_rows.Given as goal

abbrev pub invariant-rows : goal.invariant-rows
invariant-rows l
    = l.text.items ++ flat_map (look_line l.size)
    (drop l.row-index l.rows) ≡ l.fn.text.items ++ flat_map (look_line l.size) l.rows
