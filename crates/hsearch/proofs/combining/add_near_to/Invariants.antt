use Rattle.hsearch.proofs.Steps.{IsNearTo}
use Rattle.hsearch.proofs.combining.add_near_to.Given as goal

abbrev pub invariant-firsts : goal.invariant-firsts
invariant-firsts l = IsNearTo l.fn.store l.store l.x l.y
