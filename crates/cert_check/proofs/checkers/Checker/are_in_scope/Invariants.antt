use Rattle.std.proofs.Common.{◌≡◌, ◌==◌, drop}
use Rattle.std.specs.List.{list_all}
use Rattle.win_cert.specs.Entries.{entries_at}
use Rattle.cert_check.proofs.checkers.Checker.are_in_scope.Given as goal

abbrev pub invariant-numbers : goal.invariant-numbers
invariant-numbers l = list_all (λ a. a.scope == l.scope) (entries_at l.self l.numbers) ≡ list_all
    (λ a. a.scope == l.scope) (entries_at l.self (drop l.number-index l.numbers))
