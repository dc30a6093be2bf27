-- No cell is left if no add is.
use Rattle.std.proofs.Common.{◌++◌, sym, ◌∙◌, arith, eq-eqb}
use Rattle.std.proofs.lemmas.Bool.{eqb-true}
use Rattle.walker.specs.Climbs.{half_adds}
use Rattle.walker.proofs.HalfLaws.{none-in, done-in}
use Rattle.walker.proofs.climbs.Climb.is_done.Goals as goal

pub returns : goal.returns
returns c =
    let h = c.self.inside.half in
    let n = c.self.inside.next in
    let won = c.self.inside.won in (
      λ t.
          let none = eqb-true h.left 0 t in
          sym c.self.view_is
          ∙ (λ i. none-in h.first won h.cells h.left none i ++ none-in n.first won n.cells n.left (c.self.invariant.2 none) i),
      λ e. eq-eqb h.left 0
          (done-in h.first won h.cells h.left (half_adds n.first won n.cells n.left) (omega arith) (c.self.view_is ∙ e)),
    )
