use Rattle.std.proofs.Common.{◌+◌, ◌∷◌, ◌++◌, [], refl}
use Rattle.hex_engine.proofs.Ranges.{range_step}
use Rattle.hex_engine.proofs.picture.push_header.Goals as goal

pub loop-column-preserved : goal.loop-column-preserved
loop-column-preserved c =
    range_step (λ column. 32 ∷ (97 + column) ∷ [])
    (c.args.text.now.items ++ 10 ∷ 32 ∷ 32 ∷ []) c.loop-column.text.items
    c.extend_from_slice-in-loop-column.new.self.items (32 ∷ (97 + c.loop-column.column) ∷ []) c.loop-column.column
    c.loop-column.invariant c.in_ok-extend_from_slice-2.ensures.items refl
