use Rattle.std.proofs.Common.{◌≡◌, ◌<◌, ℕ, true, length, get_or}
use Rattle.hex_cells.specs.Sets.{has}
use Rattle.edge_tables.specs.Covers.{HasAt}
use Rattle.edge_tables.proofs.covers.are_apart.Given as goal

abbrev pub invariant-loop-place : goal.invariant-loop-place
invariant-loop-place l = record {
  within : (j : ℕ) → j < l.place-index → get_or l.chosen j 0 < length l.carriers;
  left_has : (k : ℕ) → has l.fn.region k ≡ true
      → ((j : ℕ) → j < l.place-index → HasAt l.carriers k (get_or l.chosen j 0)) → has l.left k ≡ true;
}
