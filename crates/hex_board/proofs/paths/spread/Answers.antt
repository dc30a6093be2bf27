use Rattle.hex_board.proofs.Reach.{first_reached, more_reached, no_more}
use Rattle.hex_board.proofs.paths.spread.Goals as goal

pub spread-init : goal.spread-init
spread-init c = first_reached _ _ _ _ c.meet-reach.ensures.items c.meet-reach.ensures.small

pub spread-preserved : goal.spread-preserved
spread-preserved c
    = more_reached _ _ _ c.spread.reach c.around.result _ c.spread.invariant c.around.ensures
    (λ k. cc (c.union-next.ensures.items k, c.meet.ensures.items k)) c.union-next.ensures.small

pub returns-then-inside : goal.returns-then-inside
returns-then-inside c
    = no_more _ _ _ c.spread.reach c.around.result c.union-next.result c.spread.invariant c.around.ensures
    (λ k. cc (c.union-next.ensures.items k, c.meet.ensures.items k))
    (c.inside.ensures.0 c.if-inside.true)
