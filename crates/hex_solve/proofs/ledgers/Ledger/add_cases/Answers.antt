use Rattle.std.proofs.Common.{◌≡◌, ◌+◌, ◌≤◌, length, sym, ap, subst, arith}
use Rattle.conn_store.specs.declared.entries.Kind.TheVariants.{Full}
use Rattle.win_cert.specs.declared.lines.Line.TheVariants.{Put, Cases}
use Rattle.hex_solve.specs.Ledgers.{AnswerAll}
use Rattle.hex_solve.specs.Ledgers.{IsLedger, LedgerData}
use Rattle.hex_board.specs.Elements.{PlayerBoard}
use Rattle.win_cert.specs.Writable.{IsLineOf}
use Rattle.win_cert.specs.declared.certs.TheConstants.{SECOND_VERSION}
use Rattle.hex_solve.proofs.AddedLines.{base_kept, counts_second, follows_second, grows_second}
use Rattle.hex_solve.proofs.AddedLines.{none_lost, put_follows, room_had, shown_second}
use Rattle.hex_solve.proofs.AddedCases.{cases_form, cases_two}
use Rattle.hex_solve.proofs.ledgers.Ledger.add_cases.Goals as goal

pub add-requires : goal.add-requires
add-requires c
    = λ l. put_follows c.args.self.now c.args.board.now c.scope-scope.result c.requires.keeps c.scope-scope.ensures

pub add-requires-2 : goal.add-requires-2
add-requires-2 c = λ l.
    let d = c.args.self.now in
    let p = c.args.board.now in
    let w : IsLedger d = subst IsLedger c.self.view_is c.self.invariant in
    let z = none_lost d w
    (room_had d c.add.new.self (Put c.scope-scope.result) c.in_ok-add.ensures l) in
    let few : length c.of.result ≤ 121
    = subst (λ xs. length xs ≤ 121) (sym c.of.ensures) c.requires.few in
    let answers : AnswerAll d p c.of.result
    = subst (AnswerAll d p) (sym c.of.ensures) c.requires.answers in (
      follows_second d c.add.new.self (Put c.scope-scope.result)
          (Cases c.of.result) w c.in_ok-add.ensures
          (λ y. (cases_two d p c.scope-scope.result c.requires.room.0 c.of.result w c.requires.keeps c.scope-scope.ensures c.requires.room.1 answers y).0) l,
      subst (λ (b : PlayerBoard). IsLineOf SECOND_VERSION b.board.size (Cases c.of.result))
          (sym (base_kept d c.add.new.self (Put c.scope-scope.result) c.in_ok-add.ensures))
          (cases_form d p c.requires.room.0 c.of.result w c.requires.room.1 few answers z),
    )

pub returns-clause-grows : goal.returns-clause-grows
returns-clause-grows c = grows_second c.args.self.now c.add.new.self c.add-2.new.self
    (Put c.scope-scope.result) (Cases c.of.result)
    (subst IsLedger c.self.view_is c.self.invariant) c.in_ok-add.ensures c.in_ok-add-2.ensures

pub returns-clause-shows : goal.returns-clause-shows
returns-clause-shows c =
    let d = c.args.self.now in
    let p = c.args.board.now in
    let same : length c.self.inside.lines.items ≡ length d.lines
    = ap (λ (d : LedgerData). length d.lines) c.self.view_is in
    let number : c.len.result ≡ length d.lines = omega (arith, c.len.ensures, same) in
    let w : IsLedger d = subst IsLedger c.self.view_is c.self.invariant in
    let answers : AnswerAll d p c.of.result
    = subst (AnswerAll d p) (sym c.of.ensures) c.requires.answers in
    shown_second d c.add.new.self c.add-2.new.self p Full (Put c.scope-scope.result)
    (Cases c.of.result) (c.len.result + 1) c.in_ok-add.ensures c.in_ok-add-2.ensures
    (ap (λ v. v + 1) number)
    (λ z. cases_two d p c.scope-scope.result c.requires.room.0 c.of.result w c.requires.keeps c.scope-scope.ensures c.requires.room.1 answers z)

pub returns-clause-counts : goal.returns-clause-counts
returns-clause-counts c = counts_second c.args.self.now c.add.new.self c.add-2.new.self
    (Put c.scope-scope.result) (Cases c.of.result) (subst IsLedger c.self.view_is c.self.invariant)
    c.in_ok-add.ensures c.in_ok-add-2.ensures
