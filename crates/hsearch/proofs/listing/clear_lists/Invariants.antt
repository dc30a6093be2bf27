use Rattle.std.proofs.Common.{◌≡◌, ℕ, length, map}
use Rattle.hsearch.specs.Listed.{Lists}
use Rattle.hsearch.proofs.listing.clear_lists.Given as goal

abbrev pub invariant-elements : goal.invariant-elements
invariant-elements l = record {
  count : length l.lists.items ≡ l._element;
  empty : (u i : ℕ) → ¬ (Lists (map (λ q. q.items) l.lists.items) u i);
}
