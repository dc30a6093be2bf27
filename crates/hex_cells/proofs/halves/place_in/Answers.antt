use Rattle.std.proofs.Common.{arith, subst, ◌+◌, ◌/◌, ◌≤◌, ◌<◌}
use Rattle.hex_cells.proofs.HalfBits.{among_all, among_upper, among_lower, among_one, ranked_in}
use Rattle.hex_cells.proofs.halves.place_in.Goals as goal

pub loop-width-init : goal.loop-width-init
loop-width-init c = among_all c.args.half c.args.k c.requires

pub loop-width-preserved-then-half-at : goal.loop-width-preserved-then-half-at
loop-width-preserved-then-half-at c =
    let i = c.loop-width.invariant in
    among_upper c.args.half c.args.k c.loop-width.at c.loop-width.width i c.loop-width-test.true
    (subst (λ v. v ≤ c.args.k) (ranked_in c.args.half (c.loop-width.at
    + c.loop-width.width / 2) (omega (arith, i.on, c.loop-width-test.true))) c.if-half-at.true)

pub loop-width-preserved : goal.loop-width-preserved
loop-width-preserved c =
    let i = c.loop-width.invariant in
    among_lower c.args.half c.args.k c.loop-width.at c.loop-width.width i c.loop-width-test.true
    (subst (λ v. c.args.k < v) (ranked_in c.args.half (c.loop-width.at + c.loop-width.width / 2) (omega (arith, i.on, c.loop-width-test.true))) (omega (
      arith,
      c.if-half-at.false,
    )))

pub returns-clause-inside : goal.returns-clause-inside
returns-clause-inside c
    = (among_one c.args.half c.args.k c.loop-width.at c.loop-width.width c.loop-width.invariant (λ l. absurd (omega (arith, l, c.loop-width-test.false)))).0

pub returns-clause-order : goal.returns-clause-order
returns-clause-order c
    = (among_one c.args.half c.args.k c.loop-width.at c.loop-width.width c.loop-width.invariant (λ l. absurd (omega (arith, l, c.loop-width-test.false)))).1
