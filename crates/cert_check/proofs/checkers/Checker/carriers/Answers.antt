use Rattle.std.proofs.Common.{◌+◌, ◌||◌, sym, ◌∙◌, ap, drop}
use Rattle.std.proofs.Math.Bool.{or_assoc, or-false}
use Rattle.std.proofs.lemmas.List.{drop_all}
use Rattle.hex_cells.specs.Sets.{has}
use Rattle.hex_cells.proofs.Bits.{has_none, same_set}
use Rattle.win_cert.specs.Entries.{carriers_of, entries_at}
use Rattle.cert_check.proofs.Passing.{passed_none, passed_some}
use Rattle.cert_check.proofs.Sharing.{carriers_more}
use Rattle.cert_check.specs.Keeping.{entry_of}
use Rattle.cert_check.proofs.checkers.Checker.carriers.Goals as goal
use Rattle.cert_check.proofs.checkers.Checker.carriers.Goals.{in-Some, in_default}

pub numbers-preserved : goal.numbers-preserved
numbers-preserved c =
    let self = c.args.self.now in
    let xs = c.args.numbers.now in
    let i = c.numbers.number-index in
    let rest = entries_at self (drop (i + 1) xs) in
    elim c.match-entry.branch [
      | in-Some w ↦ λ k. c.numbers.invariant k
          ∙ ap (λ l. has c.numbers.cells k || has (carriers_of l) k)
          (passed_some self xs i c.entry.result w.in-Some.given c.numbers-test.true c.entry.ensures.value w.in-Some.is)
          ∙ ap (λ b. has c.numbers.cells k || b) (carriers_more (entry_of w.in-Some.given) rest k)
          ∙ sym (or_assoc (has c.numbers.cells k) (has w.in-Some.given.carrier k) (has (carriers_of rest) k))
          ∙ ap (λ b. b || has (carriers_of rest) k)
          (sym (ap (λ s. has s k) w.cells-is ∙ w.union-cells.ensures.items k))
      | in_default w ↦ λ k. c.numbers.invariant k
          ∙ ap (λ l. has c.numbers.cells k || has (carriers_of l) k)
          (passed_none self xs i c.entry.result c.numbers-test.true c.entry.ensures.value w.in_default.is)
          ∙ ap (λ s. has s k || has (carriers_of rest) k) (sym w.cells-is)
    ]

pub returns : goal.returns
returns c = same_set _ _ (λ k. sym (c.numbers.invariant k
    ∙ ap (λ l. has c.numbers.cells k || has (carriers_of (entries_at c.args.self.now l)) k)
    (drop_all c.numbers.number-index c.args.numbers.now c.numbers-test.false)
    ∙ ap (λ b. has c.numbers.cells k || b) (has_none k) ∙ or-false (has c.numbers.cells k)))
