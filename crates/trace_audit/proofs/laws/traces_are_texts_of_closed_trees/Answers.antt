use Rattle.trace_audit.proofs.TracesTold.{texts_tell}
use Rattle.trace_audit.proofs.laws.traces_are_texts_of_closed_trees.Goals as goal

pub returns : goal.returns
returns c = texts_tell
