use Rattle.std.proofs.Common.{◌≡◌, ℕ, ◌<◌, length, map}
use Rattle.hsearch.specs.Listed.{Lists}
use Rattle.hsearch.proofs.listing.empty_lists.Given as goal

abbrev pub invariant-lists : goal.invariant-lists
invariant-lists l = record {
  count : length l.lists.items ≡ length l.fn.lists.items;
  empty : (u i : ℕ) → u < l.place → ¬ (Lists (map (λ q. q.items) l.lists.items) u i);
}
