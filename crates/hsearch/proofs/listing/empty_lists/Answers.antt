use Rattle.std.proofs.Common.{◌∙◌, arith}
use Rattle.std.proofs.lemmas.List.{length-set}
use Rattle.hsearch.proofs.TakenLists.{none_at_all, none_below_more}
use Rattle.hsearch.proofs.listing.empty_lists.Goals as goal

pub lists-preserved : goal.lists-preserved
lists-preserved c = record {
  count = length-set c.lists.lists.items c.lists.place c.clear.new.self
      ∙ c.lists.invariant.count;
  empty = none_below_more (λ q. q.items) c.lists.lists.items c.lists.place c.clear.new.self c.lists.invariant.empty
      (omega (arith, c.lists-test.true, c.len-place-end.ensures, c.lists.invariant.count)) c.clear.ensures.items;
}

pub returns : goal.returns
returns c =
    none_at_all (λ q. q.items) c.lists.lists.items c.lists.place c.lists.invariant.empty
    (omega (arith, c.lists-test.false, c.len-place-end.ensures, c.lists.invariant.count))
