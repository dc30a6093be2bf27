use Rattle.trace_audit.proofs.Reading.{tells_closed}
use Rattle.trace_audit.proofs.laws.traces_tell_closed_trees.Goals as goal

pub returns : goal.returns
returns c = λ t a. tells_closed t a.0 a.1 a.2
