use Rattle.std.proofs.Common.{◌≡◌, drop}
use Rattle.std.specs.List.{list_all}
use Rattle.win_cert.specs.Entries.{entry_at}
use Rattle.win_cert.specs.Statements.{may_take}
use Rattle.win_cert.specs.declared.statements.Statement.{Statement}
use Rattle.cert_check.specs.Keeping.{TakesKind}
use Rattle.cert_check.proofs.checkers.Checker.takes_all.Given as goal

abbrev pub invariant-numbers : goal.invariant-numbers
invariant-numbers l = (s : Statement) → TakesKind s l.kind l.apart
    → list_all (λ i. may_take s (entry_at l.self i)) l.numbers ≡ list_all
    (λ i. may_take s (entry_at l.self i)) (drop l.number-index l.numbers)
