-- The least cell that is left is that of the next add.
use Rattle.std.proofs.Common.{◌++◌, sym, ap, ◌∙◌, arith}
use Rattle.walker.specs.Climbs.{add_op, half_adds}
use Rattle.walker.proofs.HalfLaws.{none-in, next-in}
use Rattle.walker.proofs.climbs.Climb.op.Goals as goal

pub returns-then-self-eq0 : goal.returns-then-self-eq0
returns-then-self-eq0 c =
    let h = c.self.inside.half in
    let n = c.self.inside.next in
    let won = c.self.inside.won in
    ap add_op (sym (sym c.self.view_is ∙ (λ i. none-in h.first won h.cells h.left c.if-self-eq0.true i
    ++ none-in n.first won n.cells n.left (c.self.invariant.2 c.if-self-eq0.true) i)))

pub returns : goal.returns
returns c =
    let h = c.self.inside.half in
    let n = c.self.inside.next in
    let won = c.self.inside.won in
    ap add_op (sym (sym c.self.view_is ∙ ap (λ adds. adds ++ half_adds n.first won n.cells n.left) (next-in h.first won h.cells h.left (omega (
      arith,
      c.if-self-eq0.false,
    )) (omega arith))))
