use Rattle.std.proofs.Common.{◌≡◌, ◌<◌, length, sym, ◌∙◌, arith, refl, subst, map}
use Rattle.hsearch.specs.Waiting.{AreFilledFrom}
use Rattle.hsearch.proofs.Queues.{below_filled, filled_at, filled_within, queue_take, queued_set}
use Rattle.hsearch.proofs.Queues.{none_left, place_below}
use Rattle.hsearch.proofs.waiting.Waiting.take.Goals as goal

pub returns-then-place-len : goal.returns-then-place-len
returns-then-place-len c =
    let f : AreFilledFrom
    (map (λ q. q.items) c.self.inside.queues.items) c.self.inside.least c.first_filled-place.result =
    subst (λ xs. AreFilledFrom (map (λ q. q.items) xs) c.self.inside.least c.first_filled-place.result) c.deref.ensures.value c.first_filled-place.ensures in
    let n = none_left (λ q. q.items) c.self.inside.queues.items c.self.inside.least c.first_filled-place.result c.self.invariant f (omega arith) in
    (sym c.self.view_is ∙ n, n)

pub invariant_of-self-2 : goal.invariant_of-self-2
invariant_of-self-2 c =
    let f : AreFilledFrom
    (map (λ q. q.items) c.self.inside.queues.items) c.self.inside.least c.first_filled-place.result =
    subst (λ xs. AreFilledFrom (map (λ q. q.items) xs) c.self.inside.least c.first_filled-place.result) c.deref.ensures.value c.first_filled-place.ensures in
    let k : length c.self.inside.queues.items ≡ c.len.result = omega arith in
    let l : c.first_filled-place.result < length c.self.inside.queues.items =
    filled_within
    (λ q. q.items) c.self.inside.queues.items c.self.inside.least c.first_filled-place.result f
    (λ e. c.if-place-len.false (e ∙ k)) in
    queued_set (λ q. q.items) c.self.inside.queues.items c.self.inside.least c.first_filled-place.result c.first_filled-place.result c.pop_front.new.self
    c.self.invariant (omega arith)
    (place_below (λ q. q.items) c.self.inside.queues.items c.self.inside.least c.first_filled-place.result c.self.invariant l)
    (below_filled (map (λ q. q.items) c.self.inside.queues.items) c.self.inside.least c.first_filled-place.result c.self.invariant f)

pub returns : goal.returns
returns c =
    let f : AreFilledFrom
    (map (λ q. q.items) c.self.inside.queues.items) c.self.inside.least c.first_filled-place.result =
    subst (λ xs. AreFilledFrom (map (λ q. q.items) xs) c.self.inside.least c.first_filled-place.result) c.deref.ensures.value c.first_filled-place.ensures in
    let k : length c.self.inside.queues.items ≡ c.len.result = omega arith in
    let l : c.first_filled-place.result < length c.self.inside.queues.items =
    filled_within
    (λ q. q.items) c.self.inside.queues.items c.self.inside.least c.first_filled-place.result f
    (λ e. c.if-place-len.false (e ∙ k)) in
    queue_take (λ q. q.items) c.self.inside.queues.items c.first_filled-place.result c.pop_front.new.self c.index_mut.result.now c.pop_front.result
    c.index_mut.result.now.len c.args.self.now _ l
    (sym c.index_mut.ensures.value) c.pop_front.ensures.items c.index_mut.result.now.ok.0 c.pop_front.ensures.variant
    (filled_at (λ q. q.items) c.self.inside.queues.items c.self.inside.least c.first_filled-place.result f l) c.self.view_is refl
