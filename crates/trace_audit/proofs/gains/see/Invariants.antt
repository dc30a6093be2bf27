use Rattle.trace_audit.specs.Gains.{Sees, stone_gift}
use Rattle.trace_audit.proofs.gains.see.Given as goal

abbrev pub invariant-nodes : goal.invariant-nodes
invariant-nodes l
    = Sees l.words l.block l.place (stone_gift l.stones l.amount) l.initial.sums l.sums
