use Rattle.std.proofs.Common.{◌≡◌, ℕ, ◌&&◌, drop, nat_lt}
use Rattle.std.specs.List.{list_all}
use Rattle.hex_cells.specs.Sets.{has}
use Rattle.hex_cells.specs.declared.board_size.TheConstants.{MOST_CELLS}
use Rattle.win_cert.specs.Entries.{entries_at}
use Rattle.cert_check.proofs.checkers.Checker.common.Given as goal

abbrev pub invariant-numbers : goal.invariant-numbers
invariant-numbers l = (k : ℕ)
    → (nat_lt k MOST_CELLS && list_all (λ a. has a.carrier k) (entries_at l.self l.numbers))
    ≡ (has l.cells k && list_all (λ a. has a.carrier k) (entries_at l.self (drop l.number-index l.numbers)))
