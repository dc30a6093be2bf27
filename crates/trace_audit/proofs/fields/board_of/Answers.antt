use Rattle.trace_audit.proofs.FieldLaws.{on_small}
use Rattle.trace_audit.proofs.fields.board_of.Goals as goal

pub returns-in_default-set_of : goal.returns-in_default-set_of
returns-in_default-set_of c
    = λ p h t. c.in_default-set_of.ensures p.black
    (on_small p.size p.black h.most h.black_on) t.black

pub returns-in_default-set_of-2 : goal.returns-in_default-set_of-2
returns-in_default-set_of-2 c = λ p h t. c.in_default-set_of-2.ensures p.white
    (on_small p.size p.white h.most h.white_on) t.white
