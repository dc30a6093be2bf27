-- The entries are looked at in rising order.
use Rattle.std.proofs.Common.{◌-◌, length}
use Rattle.board_tests.proofs.of_cert_check.edge_entry.Given as goal

abbrev pub decreases-entries : goal.decreases-entries
decreases-entries l = length l.entries - l.number
