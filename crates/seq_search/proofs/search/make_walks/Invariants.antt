use Rattle.seq_search.specs.Searching.{Searched}
use Rattle.seq_search.proofs.search.make_walks.Given as goal

abbrev pub invariant-loop-k : goal.invariant-loop-k
invariant-loop-k g l = Searched l.shape l.words l.k
