use Rattle.hsearch.proofs.Steps.{IsJoined}
use Rattle.hsearch.proofs.combining.join_over.Given as goal

abbrev pub invariant-others : goal.invariant-others
invariant-others l = IsJoined l.fn.store l.store l.first.number l.first.middle l.list l.place
