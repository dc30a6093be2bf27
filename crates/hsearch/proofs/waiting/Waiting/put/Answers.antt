use Rattle.std.proofs.Common.{sym, ◌∙◌, ap, arith}
use Rattle.hsearch.proofs.Queues.{place_within, queue_put, queued_same, queued_set}
use Rattle.hsearch.proofs.waiting.Waiting.put.Goals as goal

pub invariant_of-self : goal.invariant_of-self
invariant_of-self c =
    queued_same (λ q. q.items) c.self.inside.queues.items c.self.inside.least c.args.size c.push_back.new.self c.index_mut.result.now c.self.invariant
    (c.in_err-push_back.ensures.items ∙ ap (λ q. q.items) c.index_mut.ensures.value)

pub invariant_of-self-2 : goal.invariant_of-self-2
invariant_of-self-2 c =
    queued_set (λ q. q.items) c.self.inside.queues.items c.self.inside.least c.min-self-inside.result c.args.size c.push_back.new.self c.self.invariant
    (omega (arith, c.min-self-inside.ensures)) c.requires
    (λ k l m. c.self.invariant.empty k l (omega (arith, c.min-self-inside.ensures)))

pub returns : goal.returns
returns c =
    queue_put (λ q. q.items) c.self.inside.queues.items c.args.size c.args.number c.push_back.new.self c.index_mut.result.now c.args.self.now
    (place_within (λ q. q.items) c.self.inside.queues.items c.self.inside.least c.args.size c.self.invariant c.requires)
    (sym c.index_mut.ensures.value) c.in_ok-push_back.ensures.items c.self.view_is
