use Rattle.std.proofs.Common.{◌≡◌, ℕ, ◌+◌, ◌∷◌, [], ◌++◌, length, length-append, map, ap, sym}
use Rattle.std.proofs.Common.{subst, ◌∙◌, arith}
use Rattle.hsearch.specs.Listed.{Lists}
use Rattle.hsearch.proofs.TakenLists.{none_more}
use Rattle.hsearch.proofs.listing.clear_lists.Goals as goal

pub elements-preserved : goal.elements-preserved
elements-preserved c =
    let e : c.push.new.self.items ≡ c.elements.lists.items ++ c.in_ok-with_capacity.field-0 ∷ []
    = c.in_ok-push.ensures.items in
    record {
      count = ap length e
          ∙ (length-append c.elements.lists.items (c.in_ok-with_capacity.field-0 ∷ []) ∙ ap (λ n. n + 1) c.elements.invariant.count);
      empty = subst (λ xs. (u i : ℕ) → ¬ (Lists (map (λ q. q.items) xs) u i)) (sym e)
          (none_more (λ q. q.items) c.elements.lists.items c.in_ok-with_capacity.field-0 c.elements.invariant.empty c.in_ok-with_capacity.ensures.items);
    }

pub returns-clause-count : goal.returns-clause-count
returns-clause-count c = omega (arith, c.elements.invariant.count, c.elements-test.false)

pub returns-clause-empty : goal.returns-clause-empty
returns-clause-empty c = c.elements.invariant.empty
