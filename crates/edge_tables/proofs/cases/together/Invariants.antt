use Rattle.std.proofs.Common.{◌≡◌, ℕ, ◌+◌, ◌-◌, ◌^◌, min}
use Rattle.hex_cells.specs.Sets.{has}
use Rattle.edge_tables.specs.Covers.{is_covered, line_sum}
use Rattle.edge_tables.proofs.cases.together.Given as goal

abbrev pub invariant-loop-entry : goal.invariant-loop-entry
invariant-loop-entry l = record {
  cells : (k : ℕ) → has l.carrier k ≡ is_covered l.yielded k;
  lines : l.lines ≡ min (1 + line_sum l.yielded) (2 ^ 32 - 1);
}
