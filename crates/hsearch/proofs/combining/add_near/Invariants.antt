use Rattle.std.proofs.Common.{◌≡◌}
use Rattle.hsearch.specs.Taken.{AreBare, AreNearBelow}
use Rattle.hsearch.proofs.combining.add_near.Given as goal

abbrev pub invariant-seconds : goal.invariant-seconds
invariant-seconds l = record {
  elements : l.store.elements ≡ l.fn.store.elements;
  bare : AreBare l.store;
  near : AreNearBelow l.store l.y;
}
