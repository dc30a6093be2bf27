use Rattle.std.proofs.Common.{◌≡◌}
use Rattle.board_tests.proofs.of_hsearch.board_of.Given as goal

abbrev pub invariant-loop-number : goal.invariant-loop-number
invariant-loop-number l = l.board.size ≡ l.fn.size
