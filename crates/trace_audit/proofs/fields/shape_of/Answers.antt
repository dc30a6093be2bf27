use Rattle.trace_audit.proofs.FieldLaws.{allowed_small}
use Rattle.trace_audit.proofs.fields.shape_of.Goals as goal

pub returns-in_default-set_of : goal.returns-in_default-set_of
returns-in_default-set_of c = λ s h t. c.in_default-set_of.ensures s.allowed
    (allowed_small s h) t.allowed

pub returns-in_default-knobs_of : goal.returns-in_default-knobs_of
returns-in_default-knobs_of c = λ s h t. c.in_default-knobs_of.ensures s.knobs h.ranges t.knobs
