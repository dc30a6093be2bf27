use Rattle.hex_plan.specs.TurnTexts.{move_text}
use Rattle.hex_plan.proofs.Lines.{text_end, text_step}
use Rattle.hex_plan.proofs.look_texts.push_each_move.Goals as goal

pub moves-preserved : goal.moves-preserved
moves-preserved c =
    text_step (move_text c.args.size) c.args.moves.now c.moves.cell-index c.cell-item.result _ c.moves.text.items
    c.push_move.new.text.items c.moves-test.true c.cell-item.is
    c.moves.invariant c.in_ok-push_move.ensures

pub returns : goal.returns
returns c = text_end
    (move_text c.args.size) c.args.moves.now c.moves.cell-index _ _ c.moves-test.false c.moves.invariant
