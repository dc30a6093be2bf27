-- A half without an add is left out.
use Rattle.std.proofs.Common.{◌++◌, sym, ap, ◌∙◌, append-nil}
use Rattle.walker.specs.Climbs.{half_adds}
use Rattle.walker.proofs.HalfLaws.{none-in}
use Rattle.walker.proofs.climbs.Climb.of_halves.Goals as goal

pub returns-else-half-ne0 : goal.returns-else-half-ne0
returns-else-half-ne0 c =
    let h = c.args.half in
    let n = c.args.next in
    let won = c.args.won in
    let e = c.none.result in
    let rest = half_adds n.first won n.cells n.left in
    ap (λ adds. rest ++ adds) (none-in e.first won e.cells e.left c.none.ensures.1)
    ∙ (append-nil rest
    ∙ sym (ap (λ adds. adds ++ rest) (none-in h.first won h.cells h.left c.if-half-ne0.false)))
