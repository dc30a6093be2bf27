use Rattle.std.proofs.Common.{◌∷◌, refl}
use Rattle.hex_engine.specs.Picture.{header, row_line}
use Rattle.hex_engine.proofs.Ranges.{range_step}
use Rattle.hex_engine.proofs.picture.board_text.Goals as goal

pub loop-row-preserved : goal.loop-row-preserved
loop-row-preserved c =
    range_step (λ r. 10 ∷ row_line c.args.board.now r)
    (10 ∷ header c.args.board.now.size) c.loop-row.text.items c.push_line.new.text.items
    (10 ∷ row_line c.args.board.now c.loop-row.row) c.loop-row.row
    c.loop-row.invariant c.in_ok-push_line.ensures refl
