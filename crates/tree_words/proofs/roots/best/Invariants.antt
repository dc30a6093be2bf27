use Rattle.tree_words.proofs.Boards.Bests.{Leads}
use Rattle.tree_words.proofs.roots.best.Given as goal

abbrev pub invariant-loop-place : goal.invariant-loop-place
invariant-loop-place l = Leads l.closed.shape l.closed.words l.place l.best
