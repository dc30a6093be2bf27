use Rattle.std.proofs.Common.{◌≡◌, drop}
use Rattle.std.specs.List.{list_all}
use Rattle.win_cert.specs.Entries.{entries_at}
use Rattle.win_cert.specs.Statements.{same_ends}
use Rattle.cert_check.specs.Keeping.{entry_of}
use Rattle.cert_check.proofs.checkers.Checker.have_ends_of.Given as goal

abbrev pub invariant-numbers : goal.invariant-numbers
invariant-numbers l
    = list_all (same_ends (entry_of l.first)) (entries_at l.self l.numbers) ≡ list_all
    (same_ends (entry_of l.first)) (entries_at l.self (drop l.number-index l.numbers))
