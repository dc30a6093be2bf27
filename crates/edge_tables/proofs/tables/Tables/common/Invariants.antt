use Rattle.std.proofs.Common.{◌≡◌, ℕ, take}
use Rattle.hex_cells.specs.Sets.{has}
use Rattle.edge_tables.specs.Entries.{is_common}
use Rattle.edge_tables.proofs.tables.Tables.common.Given as goal

abbrev pub invariant-loop-entry : goal.invariant-loop-entry
invariant-loop-entry l = (k : ℕ) → has l.common k ≡ is_common l.region (take l.entry-index l.entries) k
