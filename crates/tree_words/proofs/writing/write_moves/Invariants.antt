use Rattle.tree_words.proofs.NewBlocks.Writes.{Moved}
use Rattle.tree_words.proofs.writing.write_moves.Given as goal

abbrev pub invariant-loop-k : goal.invariant-loop-k
invariant-loop-k l = Moved l.start l.cells l.fn.words l.words l.place l.k
