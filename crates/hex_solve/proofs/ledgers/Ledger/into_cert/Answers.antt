use Rattle.std.proofs.Common.{◌≡◌, refl, ◌∙◌, ap, subst, arith}
use Rattle.hex_solve.specs.Ledgers.{IsLedger, LedgerData}
use Rattle.hex_solve.proofs.LedgersTell.{certified, too_many}
use Rattle.hex_solve.proofs.ledgers.Ledger.into_cert.Goals as goal

pub returns-then-self-eq0 : goal.returns-then-self-eq0
returns-then-self-eq0 c =
    let same : c.self.inside.lost ≡ c.args.self.lost
    = ap (λ (d : LedgerData). d.lost) c.self.view_is in
    let none : c.args.self.lost ≡ 0 = omega (arith, c.if-self-eq0.true, same) in
    certified c.args.self c.args.claim _
    (subst IsLedger c.self.view_is c.self.invariant) none c.requires refl
    (ap (λ (d : LedgerData). d.base.board) c.self.view_is)
    (ap (λ (d : LedgerData). d.base.player) c.self.view_is) refl
    (c.of.ensures ∙ ap (λ (d : LedgerData). d.lines) c.self.view_is)

pub returns-else-self-eq0 : goal.returns-else-self-eq0
returns-else-self-eq0 c
    = too_many c.args.self _ c.saturating_add.result c.len.result c.self.view_is c.self.invariant c.if-self-eq0.false (omega (
      arith,
      c.len.ensures,
    )) c.saturating_add.ensures
