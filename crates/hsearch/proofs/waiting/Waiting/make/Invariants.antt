use Rattle.std.proofs.Common.{◌≡◌, [], length, map}
use Rattle.std.specs.List.{concat}
use Rattle.hsearch.proofs.waiting.Waiting.make.Given as goal

abbrev pub invariant-sizes : goal.invariant-sizes
invariant-sizes l = record {
  count : length l.queues.items ≡ l._size;
  empty : concat (map (λ q. q.items) l.queues.items) ≡ [];
}
