use Rattle.std.proofs.Common.{◌≡◌, ◌∷◌, [], ◌++◌, length, length-append, map, ap, ◌∙◌, ◌+◌}
use Rattle.std.specs.List.{concat}
use Rattle.hsearch.proofs.Queues.{one_empty}
use Rattle.hsearch.proofs.waiting.Waiting.make.Goals as goal

pub sizes-preserved : goal.sizes-preserved
sizes-preserved c =
    let e : c.push.new.self.items ≡ c.sizes.queues.items ++ c.new.result ∷ []
    = c.in_ok-push.ensures.items in
    record {
      count = ap length e
          ∙ (length-append c.sizes.queues.items (c.new.result ∷ []) ∙ ap (λ n. n + 1) c.sizes.invariant.count);
      empty = ap (λ xs. concat (map (λ q. q.items) xs)) e
          ∙ one_empty (λ q. q.items) c.sizes.queues.items c.new.result c.sizes.invariant.empty c.new.ensures.items;
    }
