use Rattle.std.proofs.Common.{◌∙◌, ap, ◌||◌, ◌==◌}
use Rattle.hex_board.proofs.Roots.{none_found, next_found, no_more_roots}
use Rattle.hex_board.proofs.groups.roots_of.Goals as goal

pub groups-init : goal.groups-init
groups-init c = none_found _ _ c.none-roots.result c.none-roots.ensures.items

pub groups-preserved : goal.groups-preserved
groups-preserved c
    = next_found _ _ c.groups.roots c.groups.rest c.in-Some.c c.with.result c.flood.result _ _ c.groups.invariant
    c.in-Some.ensures.0 c.in-Some.ensures.1
    (λ j. c.with.ensures.items j ∙ ap (λ v. v || (j == c.in-Some.c)) (c.none.ensures.items j))
    c.flood.ensures c.with-roots.ensures.items c.minus-rest.ensures.items

pub returns : goal.returns
returns c = no_more_roots _ _ c.groups.roots c.groups.rest c.groups.invariant c.in_default.ensures
