use Rattle.std.proofs.Common.{◌≡◌, ℕ, ◌||◌, drop}
use Rattle.hex_cells.specs.Sets.{has}
use Rattle.win_cert.specs.Entries.{carriers_of, entries_at}
use Rattle.cert_check.proofs.checkers.Checker.carriers.Given as goal

abbrev pub invariant-numbers : goal.invariant-numbers
invariant-numbers l = (k : ℕ)
    → has (carriers_of (entries_at l.self l.numbers)) k ≡ (has l.cells k || has (carriers_of (entries_at l.self (drop l.number-index l.numbers))) k)
