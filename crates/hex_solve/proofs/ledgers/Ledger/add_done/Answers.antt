use Rattle.std.proofs.Common.{◌≡◌, ◌+◌, length, ap, subst, arith}
use Rattle.conn_store.specs.declared.entries.Kind.TheVariants.{Full}
use Rattle.win_cert.specs.declared.lines.Line.TheVariants.{Put, Done}
use Rattle.hex_solve.specs.Ledgers.{IsLedger, LedgerData}
use Rattle.hex_solve.proofs.AddedLines.{counts_second, done_two, follows_second, grows_second}
use Rattle.hex_solve.proofs.AddedLines.{put_follows, shown_second}
use Rattle.hex_solve.proofs.ledgers.Ledger.add_done.Goals as goal

pub add-requires : goal.add-requires
add-requires c
    = λ l. put_follows c.args.self.now c.args.board.now c.scope-scope.result c.requires.keeps c.scope-scope.ensures

pub add-requires-2 : goal.add-requires-2
add-requires-2 c = λ l. (
  follows_second c.args.self.now c.add.new.self (Put c.scope-scope.result) Done
      (subst IsLedger c.self.view_is c.self.invariant) c.in_ok-add.ensures
      (λ z. (done_two c.args.self.now c.args.board.now c.scope-scope.result c.requires.keeps c.scope-scope.ensures c.requires.joined).0) l,
  omega arith,
)

pub returns-clause-shows : goal.returns-clause-shows
returns-clause-shows c =
    let same : length c.self.inside.lines.items ≡ length c.args.self.now.lines
    = ap (λ (d : LedgerData). length d.lines) c.self.view_is in
    let number : c.len.result ≡ length c.args.self.now.lines = omega (arith, c.len.ensures, same) in
    shown_second c.args.self.now c.add.new.self c.add-2.new.self c.args.board.now Full
    (Put c.scope-scope.result) Done (c.len.result + 1) c.in_ok-add.ensures c.in_ok-add-2.ensures
    (ap (λ v. v + 1) number)
    (λ z. done_two c.args.self.now c.args.board.now c.scope-scope.result c.requires.keeps c.scope-scope.ensures c.requires.joined)

pub returns-clause-grows : goal.returns-clause-grows
returns-clause-grows c = grows_second c.args.self.now c.add.new.self c.add-2.new.self
    (Put c.scope-scope.result) Done
    (subst IsLedger c.self.view_is c.self.invariant) c.in_ok-add.ensures c.in_ok-add-2.ensures

pub returns-clause-counts : goal.returns-clause-counts
returns-clause-counts c = counts_second c.args.self.now c.add.new.self c.add-2.new.self
    (Put c.scope-scope.result) Done (subst IsLedger c.self.view_is c.self.invariant)
    c.in_ok-add.ensures c.in_ok-add-2.ensures
