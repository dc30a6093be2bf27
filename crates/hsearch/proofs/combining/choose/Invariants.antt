use Rattle.hsearch.specs.Taken.{Extends}
use Rattle.hsearch.proofs.Steps.{AreChosen}
use Rattle.hsearch.proofs.combining.choose.Given as goal

abbrev pub invariant-seconds : goal.invariant-seconds
invariant-seconds l = record {
  grown : Extends l.fn.store l.store;
  chosen : AreChosen l.store l.taken l.number l.held l.place;
}
