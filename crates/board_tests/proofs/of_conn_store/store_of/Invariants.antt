use Rattle.std.proofs.Common.{◌≡◌}
use Rattle.board_tests.proofs.of_conn_store.store_of.Given as goal

abbrev pub invariant-loop-column : goal.invariant-loop-column
invariant-loop-column g l = l.board.size ≡ l.size
