use Rattle.std.proofs.Common.{◌≡◌, ℕ, ◌<◌, true, Some, slice_index}
use Rattle.std.specs.List.{slice_get}
use Rattle.hex_cells.specs.Sets.{has}
use Rattle.conn_store.specs.declared.entries.Entry.{Entry}
use Rattle.conn_store.proofs.index.has_inside.Given as goal

abbrev pub invariant-loop-j : goal.invariant-loop-j
invariant-loop-j l =
    (i : ℕ) (a : Entry) → i < l.j → slice_get l.entries (slice_index l.held.at i) ≡ Some a
    → ((k : ℕ) → has a.carrier k ≡ true → has l.carrier k ≡ true) → ⊥
