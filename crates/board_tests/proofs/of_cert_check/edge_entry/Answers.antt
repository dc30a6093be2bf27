-- The entry that was found stands at its number between the edges.
use Rattle.std.proofs.Common.{rules, ◌≡◌, List, Some, refl, subst}
use Rattle.std.specs.List.{slice_get}
use Rattle.std.proofs.lemmas.Option.{slice_get_read}
use Rattle.conn_store.specs.declared.entries.Entry.{Entry}
use Rattle.board_tests.proofs.of_cert_check.edge_entry.Goals.{then-entry-min, else-entry-min}
use Rattle.board_tests.proofs.of_cert_check.edge_entry.Goals as goal

pub returns-then-eq : goal.returns-then-eq
returns-then-eq c =
    let same : c.entries-entries.result.now ≡ c.args.report.now.entries = search rules in
    let found : slice_get c.entries-entries.result.now c.entries.number ≡ Some c.in-Some.entry.now =
    slice_get_read c.entries-entries.result.now _ c.entries.number c.in-Some.entry.now refl c.in-Some.ensures.lookup.3.0 c.in-Some.ensures.lookup.1 in (
      c.in-Some.entry.now,
      (
        subst (λ (xs : List Entry). slice_get xs c.entries.number ≡ Some c.in-Some.entry.now) same found,
        elim c.if-entry-min.branch [ then-entry-min w ↦ (search rules, search rules) | else-entry-min w ↦ (search rules, search rules) ],
      ),
    )
