use Rattle.std.proofs.Common.{get_or}
use Rattle.hsearch.proofs.Steps.{AreThirds}
use Rattle.hsearch.proofs.combining.choose_at.Given as goal

abbrev pub invariant-thirds : goal.invariant-thirds
invariant-thirds l
    = AreThirds l.fn.store l.store l.taken l.number (get_or l.held.at l.place 0) l.held l.other
