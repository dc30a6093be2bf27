-- What a report answers of what it has.
use Rattle.std.specs.Prelude.{ℕ, List}
use Rattle.conn_store.specs.declared.entries.Kind.{Kind}
use Rattle.conn_store.specs.declared.entries.Kind.TheVariants.{Full, Semi}
use Rattle.edge_reach.specs.declared.entries.Entry.{Entry}
use Rattle.edge_reach.specs.declared.found.Found.{Found}
use Rattle.edge_reach.specs.declared.reports.Reach.{Reach}

-- the numbers of the entries between the edges
abbrev pub edge_numbers : Found → Kind → List ℕ
edge_numbers found Full = found.edge_full.items
edge_numbers found Semi = found.edge_semi.items

-- the entries of the report, by their numbers
abbrev pub report_entries : Reach → List Entry
report_entries reach = reach.found.entries.items

-- the numbers of its entries between the edges
abbrev pub report_numbers : Reach → Kind → List ℕ
report_numbers reach kind = edge_numbers reach.found kind
