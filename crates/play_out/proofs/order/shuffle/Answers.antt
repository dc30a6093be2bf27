use Rattle.std.proofs.Common.{arith}
use Rattle.play_out.proofs.Shuffles.{next_shuffling, all_shuffled}
use Rattle.play_out.proofs.order.shuffle.Goals as goal

pub places-preserved : goal.places-preserved
places-preserved c
    = next_shuffling _ _ c.places.cells c.places.generator _ _ c.places.i _ c.places.invariant
    (omega arith)
    c.settle.ensures.order c.settle.ensures.same c.settle.ensures.count

pub returns-clause-order : goal.returns-clause-order
returns-clause-order c
    = all_shuffled _ _ c.places.cells c.places.generator c.places.i c.places.invariant
    (λ h. absurd (omega arith))
