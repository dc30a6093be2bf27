use Rattle.std.proofs.Common.{◌≡◌, ◌+◌, ◌*◌, ◌∷◌, [], ap, ◌∙◌}
use Rattle.hex_engine.specs.Picture.{mark}
use Rattle.hex_engine.proofs.Ranges.{range_step}
use Rattle.hex_engine.proofs.picture.push_marks.Goals as goal

pub loop-column-preserved : goal.loop-column-preserved
loop-column-preserved c =
    let board = c.args.board.now in
    let cell : c.at.result ≡ c.args.row * board.size + c.loop-column.column = c.at.ensures.value
    ∙ ap (λ n. c.args.row * n + c.loop-column.column) c.size-size.ensures.value in
    range_step (λ column. 32 ∷ mark board (c.args.row * board.size + column) ∷ []) c.args.text.now.items
    c.loop-column.text.items c.extend_from_slice.new.self.items (32 ∷ c.mark_at.result ∷ []) c.loop-column.column
    c.loop-column.invariant c.in_ok-extend_from_slice.ensures.items
    (ap (λ b. 32 ∷ b ∷ []) (c.mark_at.ensures ∙ ap (mark board) cell))
