use Rattle.trace_audit.proofs.OneVerdict.{verdict_one}
use Rattle.trace_audit.proofs.laws.bytes_have_one_verdict.Goals as goal

pub returns : goal.returns
returns c = verdict_one
