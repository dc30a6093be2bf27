use Rattle.std.proofs.Common.{◌≡◌, ◌+◌, length, sym, ap, subst, arith}
use Rattle.conn_store.specs.declared.entries.Kind.TheVariants.{Semi}
use Rattle.win_cert.specs.declared.lines.Line.TheVariants.{Put, Move}
use Rattle.hex_solve.specs.Ledgers.{IsLedger, LedgerData}
use Rattle.hex_solve.proofs.AddedLines.{base_kept, counts_second, follows_second, grows_second}
use Rattle.hex_solve.proofs.AddedLines.{move_form, move_two, none_lost, put_follows, room_had}
use Rattle.hex_solve.proofs.AddedLines.{shown_second}
use Rattle.hex_board.specs.Elements.{PlayerBoard}
use Rattle.win_cert.specs.Writable.{IsLineOf}
use Rattle.win_cert.specs.declared.certs.TheConstants.{SECOND_VERSION}
use Rattle.hex_solve.proofs.ledgers.Ledger.add_move.Goals as goal

pub add-requires : goal.add-requires
add-requires c
    = λ l. put_follows c.args.self.now c.args.board.now c.scope-scope.result c.requires.keeps c.scope-scope.ensures

pub add-requires-2 : goal.add-requires-2
add-requires-2 c = λ l.
    let w : IsLedger c.args.self.now = subst IsLedger c.self.view_is c.self.invariant in
    let z = none_lost c.args.self.now w
    (room_had c.args.self.now c.add.new.self (Put c.scope-scope.result) c.in_ok-add.ensures l) in (
      follows_second c.args.self.now c.add.new.self (Put c.scope-scope.result)
          (Move c.args.cell c.args.line) w c.in_ok-add.ensures
          (λ y. (move_two c.args.self.now c.args.board.now c.scope-scope.result c.args.cell c.args.line c.requires.keeps c.scope-scope.ensures
          c.requires.empty c.requires.shows y).0) l,
      subst (λ (b : PlayerBoard). IsLineOf SECOND_VERSION b.board.size (Move c.args.cell c.args.line))
          (sym (base_kept c.args.self.now c.add.new.self (Put c.scope-scope.result) c.in_ok-add.ensures))
          (move_form c.args.self.now c.args.board.now c.args.cell c.args.line w c.requires.keeps c.requires.empty c.requires.shows z),
    )

pub returns-clause-shows : goal.returns-clause-shows
returns-clause-shows c =
    let same : length c.self.inside.lines.items ≡ length c.args.self.now.lines
    = ap (λ (d : LedgerData). length d.lines) c.self.view_is in
    let number : c.len.result ≡ length c.args.self.now.lines = omega (arith, c.len.ensures, same) in
    shown_second c.args.self.now c.add.new.self c.add-2.new.self c.args.board.now Semi
    (Put c.scope-scope.result) (Move c.args.cell c.args.line)
    (c.len.result + 1) c.in_ok-add.ensures c.in_ok-add-2.ensures (ap (λ v. v + 1) number)
    (λ z. move_two c.args.self.now c.args.board.now c.scope-scope.result c.args.cell c.args.line c.requires.keeps c.scope-scope.ensures c.requires.empty
    c.requires.shows z)

pub returns-clause-grows : goal.returns-clause-grows
returns-clause-grows c = grows_second c.args.self.now c.add.new.self c.add-2.new.self
    (Put c.scope-scope.result) (Move c.args.cell c.args.line)
    (subst IsLedger c.self.view_is c.self.invariant) c.in_ok-add.ensures c.in_ok-add-2.ensures

pub returns-clause-counts : goal.returns-clause-counts
returns-clause-counts c = counts_second c.args.self.now c.add.new.self c.add-2.new.self
    (Put c.scope-scope.result) (Move c.args.cell c.args.line)
    (subst IsLedger c.self.view_is c.self.invariant)
    c.in_ok-add.ensures c.in_ok-add-2.ensures
