-- The least cell that is left falls out, and after the last of a half the other half is next.
use Rattle.std.proofs.Common.{◌++◌, ◌*◌, ◌^◌, ◌%◌, bit_xor, sym, ap, ◌∙◌, arith, append-nil}
use Rattle.std.specs.Int.{trailing_zeros, w64}
use Rattle.walker.specs.Climbs.{adds_after, half_adds}
use Rattle.walker.proofs.HalfLaws.{none-in, next-in}
use Rattle.walker.proofs.climbs.Climb.got.Goals as goal

pub returns-then-left-eq0 : goal.returns-then-left-eq0
returns-then-left-eq0 c =
    let h = c.self.inside.half in
    let n = c.self.inside.next in
    let won = c.self.inside.won in
    let none = sym c.self.view_is
    ∙ (λ i. none-in h.first won h.cells h.left c.if-left-eq0.true i ++ none-in n.first won n.cells n.left (c.self.invariant.2 c.if-left-eq0.true) i) in
    none ∙ sym (ap adds_after none)

pub returns : goal.returns
returns c =
    let h = c.self.inside.half in
    let n = c.self.inside.next in
    let won = c.self.inside.won in
    ap adds_after
    (sym (sym c.self.view_is ∙ ap (λ adds. adds ++ half_adds n.first won n.cells n.left) (next-in h.first won h.cells h.left (omega (
      arith,
      c.if-left-eq0.false,
    )) (omega arith))))

pub returns-then-rest-eq0 : goal.returns-then-rest-eq0
returns-then-rest-eq0 c =
    let h = c.self.inside.half in
    let n = c.self.inside.next in
    let won = c.self.inside.won in
    let e = c.none-self-inside.result in
    let after = half_adds n.first won n.cells n.left in
    ap (λ adds. after ++ adds) (none-in e.first won e.cells e.left c.none-self-inside.ensures.1)
    ∙ (append-nil after
    ∙ (sym (ap (λ adds. adds ++ after) (none-in h.first won h.cells (bit_xor h.left (1 * 2 ^ trailing_zeros w64 h.left % 2 ^ 64)) c.if-rest-eq0.true))
    ∙ ap adds_after
    (sym (sym c.self.view_is ∙ ap (λ adds. adds ++ after) (next-in h.first won h.cells h.left (omega (arith, c.if-left-eq0.false)) (omega arith))))))
