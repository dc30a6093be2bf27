use Rattle.std.proofs.Common.{take}
use Rattle.sgf_tree.specs.ReadingStates.{state_of}
use Rattle.sgf_tree.specs.Verdict.{GoesTo}
use Rattle.sgf_tree.proofs.parsing.read_all.Given as goal

abbrev pub invariant-loop-at : goal.invariant-loop-at
invariant-loop-at l = GoesTo (take l.at l.bytes) (state_of l.reading)
