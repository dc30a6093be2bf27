use Rattle.std.proofs.Common.{◌≡◌, ◌++◌, ◌∷◌}
use Rattle.std.specs.List.{flat_map, range_with_len}
use Rattle.hex_engine.specs.Picture.{header, row_line}
use Rattle.hex_engine.proofs.picture.board_text.Given as goal

abbrev pub invariant-loop-row : goal.invariant-loop-row
invariant-loop-row l
    = l.text.items ≡ (10 ∷ header l.board.size) ++ flat_map (λ r. 10 ∷ row_line l.board r)
    (range_with_len 0 l.row)
