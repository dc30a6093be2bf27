use Rattle.std.proofs.Common.{◌≡◌, ◌≤◌, ◌<◌, List, [], ℕ, length, map, set, true, arith, ap, sym}
use Rattle.std.proofs.Common.{◌∙◌, subst, inl, inr}
use Rattle.hex_board.specs.Elements.{PlayerBoard, element_count}
use Rattle.std.proofs.lemmas.List.{length-set}
use Rattle.hsearch.specs.Listed.{AreListed}
use Rattle.hsearch.specs.Taken.{AreNearBelow, IsCombined}
use Rattle.hsearch.specs.Waiting.{IsWithRange}
use Rattle.hsearch.proofs.Growth.{grown_longer}
use Rattle.hsearch.proofs.Queues.{contains_none, with_itself, with_keeps}
use Rattle.hsearch.proofs.Steps.{all_taken, combined_itself, marked_grown, marked_more, near_stays}
use Rattle.hsearch.proofs.Steps.{none_taken, number_grown, one_taken}
use Rattle.hsearch.proofs.TakenLists.{list_there, listed_grown, listed_more, listed_stays}
use Rattle.hsearch.proofs.TakenLists.{lists_first}
use Rattle.conn_store.proofs.RuleEntries.{stands}
use Rattle.hsearch.proofs.reports.closed.Goals as goal

pub entries-init : goal.entries-init
entries-init c =
    let f : IsWithRange [] c.put_from.new.self 0 (length c.add_near.new.store.entries) =
    subst (λ (v : List ℕ). IsWithRange v c.put_from.new.self 0 (length c.add_near.new.store.entries)) c.requires.waiting
    (subst (λ xs. IsWithRange c.args.waiting c.put_from.new.self 0 (length xs)) c.entries-2.ensures.value c.in_ok-put_from.ensures) in
    let l : element_count c.add_near.new.store.elements ≤ length c.clear_lists.new.lists.items =
    subst (λ n. n ≤ length c.clear_lists.new.lists.items)
    (c.count.ensures.value ∙ ap element_count c.elements.ensures) c.in_ok-clear_lists.ensures.count in
    record {
      elements = c.add_near.ensures.elements;
      sound = c.entries-2.ensures.sound;
      near = c.add_near.ensures.near;
      taken = none_taken c.add_near.new.store c.put_from.new.self
          (λ i l. f.added i (omega arith) l);
      marked = λ i l e. f.added i (omega arith) l;
      places = let z = ap length c.clear.ensures.items in omega (arith, z);
      listed = subst (λ v. AreListed c.add_near.new.store v (map (λ q. q.items) c.clear_lists.new.lists.items)) (sym c.clear.ensures.items)
          (lists_first (λ q. q.items) c.clear_lists.new.lists.items c.add_near.new.store l c.in_ok-clear_lists.ensures.empty);
      within = λ i h. elim (f.others i h) [ inl o ↦ absurd (contains_none i o) | inr o ↦ o.1 ];
    }

pub index_mut-requires : goal.index_mut-requires
index_mut-requires c =
    let n : c.in-Some.number < length c.entries.store.entries
    = c.entries.invariant.within c.in-Some.number
    (with_itself c.take.new.self c.in-Some.number c.entries.waiting c.in-Some.ensures) in
    let m : length c.entries.store.entries ≤ length c.combine.new.store.entries
    = grown_longer _ _ c.combine.ensures.extends in
    let long : length c.grow.new.marks.items ≡ length c.combine.new.store.entries
    = c.in_ok-grow.ensures.length ∙ ap length c.entries-entries.ensures.value in
    let place : c.in-Some.number < length c.grow.new.marks.items
    = omega (arith, n, m, long) in omega arith

pub combine-requires : goal.combine-requires
combine-requires c = record {
  number = c.entries.invariant.within c.in-Some.number
      (with_itself c.take.new.self c.in-Some.number c.entries.waiting c.in-Some.ensures);
  lists =
      subst (λ v. AreListed c.entries.store v (map (λ q. q.items) c.deref-in-Some.result.now))
      (sym c.deref.ensures.value)
      (subst (λ xs. AreListed c.entries.store c.entries.taken.items (map (λ q. q.items) xs)) (sym c.deref-in-Some.ensures.value) c.entries.invariant.listed);
}

pub bounds-entries-number : goal.bounds-entries-number
bounds-entries-number c =
    let n : c.in-Some.number < length c.entries.store.entries
    = c.entries.invariant.within c.in-Some.number
    (with_itself c.take.new.self c.in-Some.number c.entries.waiting c.in-Some.ensures) in
    subst (λ xs. c.in-Some.number < length xs) (sym c.entries-entries.ensures.value)
    (number_grown c.entries.store c.combine.new.store c.in-Some.number c.combine.ensures.extends n)

pub enlist-requires-clause-first : goal.enlist-requires-clause-first
enlist-requires-clause-first c =
    let n : c.in-Some.number < length c.entries.store.entries
    = c.entries.invariant.within c.in-Some.number
    (with_itself c.take.new.self c.in-Some.number c.entries.waiting c.in-Some.ensures) in
    let v = c.entries-entries.ensures.sound.valid _ _
    (stands c.combine.new.store _ _ _ c.entries-entries.ensures.value
    (number_grown c.entries.store c.combine.new.store c.in-Some.number c.combine.ensures.extends n) c.index-entries-number.is) in
    let l : c.index-entries-number.result.x < element_count c.combine.new.store.elements
    = omega (arith, v.order, v.elements) in
    list_there (λ q. q.items) c.entries.lists.items c.combine.new.store c.entries.taken.items c.index-entries-number.result.x
    (listed_stays c.entries.store c.combine.new.store c.entries.taken.items (map (λ q. q.items) c.entries.lists.items) c.entries.invariant.listed
    c.combine.ensures.extends c.entries.invariant.places) l

pub enlist-requires-clause-second : goal.enlist-requires-clause-second
enlist-requires-clause-second c =
    let n : c.in-Some.number < length c.entries.store.entries
    = c.entries.invariant.within c.in-Some.number
    (with_itself c.take.new.self c.in-Some.number c.entries.waiting c.in-Some.ensures) in
    let v = c.entries-entries.ensures.sound.valid _ _
    (stands c.combine.new.store _ _ _ c.entries-entries.ensures.value
    (number_grown c.entries.store c.combine.new.store c.in-Some.number c.combine.ensures.extends n) c.index-entries-number.is) in
    list_there (λ q. q.items) c.entries.lists.items c.combine.new.store c.entries.taken.items c.index-entries-number.result.y
    (listed_stays c.entries.store c.combine.new.store c.entries.taken.items (map (λ q. q.items) c.entries.lists.items) c.entries.invariant.listed
    c.combine.ensures.extends c.entries.invariant.places) v.elements

pub entries-preserved : goal.entries-preserved
entries-preserved c =
    let e = c.combine.ensures.extends in
    let same = c.in_ok-grow.ensures.same in
    let n : c.in-Some.number < length c.entries.store.entries
    = c.entries.invariant.within c.in-Some.number
    (with_itself c.take.new.self c.in-Some.number c.entries.waiting c.in-Some.ensures) in
    let m : length c.entries.store.entries ≤ length c.combine.new.store.entries
    = grown_longer _ _ e in
    let f : IsWithRange c.take.new.self c.put_from-in-Some.new.self (length c.entries.store.entries)
    (length c.combine.new.store.entries) =
    subst (λ xs. IsWithRange c.take.new.self c.put_from-in-Some.new.self (length c.entries.store.entries) (length xs)) c.entries-entries.ensures.value
    (subst (λ xs. IsWithRange c.take.new.self c.put_from-in-Some.new.self (length xs) (length c.entries-entries.result.now)) c.entries-count.ensures.value
    c.in_ok-put_from-2.ensures) in
    let long : length c.grow.new.marks.items ≡ length c.combine.new.store.entries
    = c.in_ok-grow.ensures.length ∙ ap length c.entries-entries.ensures.value in
    let place : c.in-Some.number < length c.grow.new.marks.items = omega (arith, n, m, long) in
    let marked = marked_grown c.entries.store c.entries.taken.items c.grow.new.marks.items c.entries.waiting c.entries.invariant.marked same in
    let before : IsCombined c.combine.new.store
    (length c.entries.store.entries) c.entries.taken.items c.in-Some.number =
    subst (λ v. IsCombined c.combine.new.store (length c.entries.store.entries) v c.in-Some.number) c.deref.ensures.value c.combine.ensures.combined in
    let combined
    = combined_itself c.combine.new.store
    (length c.entries.store.entries) c.entries.taken.items c.grow.new.marks.items c.in-Some.number c.entries-entries.ensures.sound same before in
    let marks = marked_more c.entries.store c.combine.new.store c.grow.new.marks.items c.entries.waiting c.take.new.self c.put_from-in-Some.new.self
    c.in-Some.number
    marked c.in-Some.ensures place f in
    let a = stands c.combine.new.store _ _ _ c.entries-entries.ensures.value
    (number_grown c.entries.store c.combine.new.store c.in-Some.number e n) c.index-entries-number.is in
    let listed = listed_stays c.entries.store c.combine.new.store c.entries.taken.items
    (map (λ q. q.items) c.entries.lists.items) c.entries.invariant.listed e c.entries.invariant.places in
    record {
      elements = e.elements ∙ c.entries.invariant.elements;
      sound = c.entries-entries.ensures.sound;
      near = subst (λ (v : PlayerBoard). AreNearBelow c.combine.new.store (element_count v))
          (sym e.elements)
          (near_stays c.entries.store c.combine.new.store _ e c.entries.invariant.near);
      taken = one_taken c.entries.store c.combine.new.store
          (set c.grow.new.marks.items c.in-Some.number true) c.entries.waiting c.take.new.self c.put_from-in-Some.new.self c.in-Some.number
          c.entries.invariant.taken c.in-Some.ensures n e marks.0 combined f;
      marked = marks.1;
      places = let z : length
          (set c.grow.new.marks.items c.in-Some.number true) ≡ length c.grow.new.marks.items
          = length-set c.grow.new.marks.items c.in-Some.number true in omega (arith, z, long);
      listed = listed_more c.combine.new.store c.grow.new.marks.items
          (map (λ q. q.items) c.entries.lists.items)
          (map (λ q. q.items) c.enlist.new.lists.items) c.in-Some.number c.index-entries-number.result
          (listed_grown c.combine.new.store c.entries.taken.items c.grow.new.marks.items (map (λ q. q.items) c.entries.lists.items) listed same)
          c.in_ok-enlist.ensures a;
      within = λ i h. elim (f.others i h) [
        | inl o ↦ let l : i < length c.entries.store.entries
            = c.entries.invariant.within i
            (with_keeps c.take.new.self c.in-Some.number c.entries.waiting i c.in-Some.ensures o) in omega arith
        | inr o ↦ o.1
      ];
    }

pub invariant_of-result : goal.invariant_of-result
invariant_of-result c = (
  record {
    sound = c.entries.invariant.sound;
    closed = all_taken c.entries.store c.entries.waiting c.entries.invariant.taken c.in_default.ensures.0 c.entries.invariant.near;
  },
  c.in_default.ensures.1,
)

pub returns-clause-report : goal.returns-clause-report
returns-clause-report c = record {
  sound = c.entries.invariant.sound;
  closed = all_taken c.entries.store c.entries.waiting c.entries.invariant.taken c.in_default.ensures.0 c.entries.invariant.near;
}
