use Rattle.board_tests.proofs.of_hsearch.+is_true.Given as goal

abbrev pub decreases-is_true : goal.decreases-is_true
decreases-is_true l = l.fuel

abbrev pub decreases-loop-cell : goal.decreases-loop-cell
decreases-loop-cell l = l.rest
