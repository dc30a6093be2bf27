use Rattle.seq_search.specs.Adding.{Sighted}
use Rattle.seq_search.proofs.adding.see.Given as goal

abbrev pub invariant-nodes : goal.invariant-nodes
invariant-nodes l = Sighted l.block l.place l.stones l.amount l.initial.words l.words
