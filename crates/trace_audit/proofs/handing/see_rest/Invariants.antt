use Rattle.trace_audit.specs.Gains.{Sees, rest_gift}
use Rattle.trace_audit.proofs.handing.see_rest.Given as goal

abbrev pub invariant-nodes : goal.invariant-nodes
invariant-nodes l = Sees l.words l.block l.place (rest_gift l.amount l.unseen) l.initial.sums l.sums
