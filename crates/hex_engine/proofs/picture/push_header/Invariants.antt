use Rattle.std.proofs.Common.{◌≡◌, ◌+◌, ◌++◌, ◌∷◌, []}
use Rattle.std.specs.List.{flat_map, range_with_len}
use Rattle.hex_engine.proofs.picture.push_header.Given as goal

abbrev pub invariant-loop-column : goal.invariant-loop-column
invariant-loop-column l
    = l.text.items ≡ (l.fn.text.items ++ 10 ∷ 32 ∷ 32 ∷ []) ++ flat_map (λ column. 32 ∷ (97 + column) ∷ []) (range_with_len 0 l.column)
