use Rattle.std.proofs.Common.{◌≡◌, drop}
use Rattle.std.specs.List.{list_all}
use Rattle.win_cert.specs.Entries.{entries_at}
use Rattle.win_cert.specs.Statements.{is_edge_entry}
use Rattle.cert_check.proofs.checkers.Checker.are_of_edges.Given as goal

abbrev pub invariant-numbers : goal.invariant-numbers
invariant-numbers l = list_all (is_edge_entry l.self.base) (entries_at l.self l.numbers) ≡ list_all
    (is_edge_entry l.self.base) (entries_at l.self (drop l.number-index l.numbers))
