-- The seen adds of the cells, by halves.
use Rattle.std.proofs.Common.{◌*◌, ◌≤◌, ◌&&◌, refl, ap, ◌∙◌, arith}
use Rattle.std.proofs.Math.Nat.{mul-le-mul}
use Rattle.hex_cells.specs.Sets.{has as has_cell}
use Rattle.walker.proofs.SeenAdds.{adds-halves}
use Rattle.walker.proofs.climbs.Climb.of.Goals as goal

pub returns : goal.returns
returns c =
    let n = c.args.size * c.args.size in
    c.of_halves.ensures
    ∙ adds-halves c.args.stones c.args.cells c.meet-added.result n c.args.block _ _ _ _ _ _ c.args.won
    (let small : c.args.size ≤ 11 = c.keeps.ensures.range.1 in let most : n ≤ 11 * 11 = mul-le-mul small small in omega (arith, most))
    (λ k. c.meet-added.ensures.items k ∙ (ap (λ b. b && has_cell c.all.result k) (c.meet.ensures.items k) ∙ ap
    (λ b. (has_cell c.args.cells k && has_cell c.args.stones k) && b) (c.all.ensures.items k)))
    c.halves-low_cells.ensures.0 c.halves-low_cells.ensures.1 c.halves-low_left.ensures.0 c.halves-low_left.ensures.1 refl refl
