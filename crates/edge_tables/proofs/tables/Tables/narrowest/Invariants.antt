use Rattle.std.proofs.Common.{◌≡◌, ◌<◌, ◌≤◌, ◌-◌, ◌^◌, ℕ, true, false, get_or, take, Contains, IfSome, None}
use Rattle.edge_tables.specs.Entries.{is_inside, width}
use Rattle.edge_tables.specs.declared.entries.EdgeEntry.{EdgeEntry}
use Rattle.edge_tables.proofs.tables.Tables.narrowest.Given as goal

abbrev pub invariant-loop-entry : goal.invariant-loop-entry
invariant-loop-entry l = record {
  none : l.best ≡ None → (l.least ≡ 2 ^ 64 - 1)
      × ((j : ℕ) (d : EdgeEntry) → j < l.entry-index → is_inside l.region (get_or l.entries j d) ≡ false);
  some : IfSome l.best (λ e. Contains (take l.entry-index l.entries) e
      × (is_inside l.region e ≡ true) × (width e ≡ l.least));
  least : (j : ℕ) (d : EdgeEntry) → j < l.entry-index → is_inside l.region (get_or l.entries j d) ≡ true
      → l.least ≤ width (get_or l.entries j d);
}
