use Rattle.std.proofs.Common.{map}
use Rattle.hsearch.specs.Waiting.{AreEmpty}
use Rattle.hsearch.proofs.waiting.first_filled.Given as goal

abbrev pub invariant-places : goal.invariant-places
invariant-places l = AreEmpty (map (λ q. q.items) l.queues) l.start l.place
