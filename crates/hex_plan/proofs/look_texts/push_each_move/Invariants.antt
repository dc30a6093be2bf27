use Rattle.std.proofs.Common.{◌≡◌, ◌++◌, drop}
use Rattle.std.specs.List.{flat_map}
use Rattle.hex_plan.specs.TurnTexts.{move_text}
use Rattle.hex_plan.proofs.look_texts.push_each_move.Given as goal

abbrev pub invariant-moves : goal.invariant-moves
invariant-moves l
    = l.text.items ++ flat_map (move_text l.size)
    (drop l.cell-index l.moves) ≡ l.fn.text.items ++ flat_map (move_text l.size) l.moves
