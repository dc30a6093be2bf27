use Rattle.std.proofs.Common.{◌≡◌, ◌+◌, ◌*◌, ◌++◌, ◌∷◌, []}
use Rattle.std.specs.List.{flat_map, range_with_len}
use Rattle.hex_engine.specs.Picture.{mark}
use Rattle.hex_engine.proofs.picture.push_marks.Given as goal

abbrev pub invariant-loop-column : goal.invariant-loop-column
invariant-loop-column l
    = l.text.items ≡ l.fn.text.items ++ flat_map (λ column. 32 ∷ mark l.board (l.row * l.board.size + column) ∷ []) (range_with_len 0 l.column)
