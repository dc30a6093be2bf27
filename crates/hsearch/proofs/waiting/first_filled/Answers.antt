use Rattle.std.proofs.Common.{sym, ◌∙◌}
use Rattle.std.proofs.lemmas.Bool.{eqb-true}
use Rattle.hsearch.proofs.Queues.{empty_more}
use Rattle.hsearch.proofs.waiting.first_filled.Goals as goal

pub places-preserved : goal.places-preserved
places-preserved c =
    empty_more (λ q. q.items) c.args.queues.now c.args.start c.places.place c.index-queues-place.result c.index-queues-place.result
    c.index-queues-place.result.len c.places.invariant c.places-test.true
    (sym c.index-queues-place.is) c.index-queues-place.result.ok.0
    (eqb-true c.index-queues-place.result.len 0 (sym c.is_empty.ensures ∙ c.if-not-is_empty.false))
