use Rattle.std.proofs.Common.{◌≡◌, sym, ◌∙◌, subst, ap}
use Rattle.std.proofs.lemmas.Option.{same_Some}
use Rattle.conn_store.specs.declared.entries.Entry.{Entry}
use Rattle.conn_store.proofs.RuleEntries.{stands}
use Rattle.std.specs.List.{Contains}
use Rattle.hsearch.proofs.Growth.{grown_on, over_stays}
use Rattle.hsearch.proofs.Steps.{combined_full, combined_semi, full_at, full_grown, number_grown}
use Rattle.hsearch.proofs.TakenLists.{list_there}
use Rattle.hsearch.proofs.combining.combine.Goals as goal

pub join_over-requires-in-Full-clause-entry : goal.join_over-requires-in-Full-clause-entry
join_over-requires-in-Full-clause-entry c =
    let a = stands c.args.store.now _ _ _ c.entries.ensures.value c.requires.number c.index-entries-number.is in
    full_grown c.args.store.now c.join_over.new.store c.args.number c.index-entries-number.result.x c.index-entries-number.result.y
    c.join_over.ensures.extends c.requires.number
    (full_at c.args.store.now c.args.number c.index-entries-number.result a c.in-Full.is (c.entries.ensures.sound.valid _ _ a).order).1

pub join_over-requires-clause-entry : goal.join_over-requires-clause-entry
join_over-requires-clause-entry c =
    let a = stands c.args.store.now _ _ _ c.entries.ensures.value c.requires.number c.index-entries-number.is in
    (full_at c.args.store.now c.args.number c.index-entries-number.result a c.in-Full.is (c.entries.ensures.sound.valid _ _ a).order).0

pub join_over-requires-clause-list : goal.join_over-requires-clause-list
join_over-requires-clause-list c = λ i m. c.requires.lists.within c.index-entries-number.result.x i
    (subst (λ xs. Contains xs i) c.list_of.ensures m)

pub list_of-requires-in-Full : goal.list_of-requires-in-Full
list_of-requires-in-Full c =
    let a = stands c.args.store.now _ _ _ c.entries.ensures.value c.requires.number c.index-entries-number.is in
    list_there (λ q. q.items) c.args.lists.now c.args.store.now c.args.taken.now c.index-entries-number.result.y c.requires.lists
    (c.entries.ensures.sound.valid _ _ a).elements

pub join_over-requires-in-Full-clause-list : goal.join_over-requires-in-Full-clause-list
join_over-requires-in-Full-clause-list c =
    λ i m. number_grown _ _ _ c.join_over.ensures.extends
    (c.requires.lists.within c.index-entries-number.result.y i (subst (λ xs. Contains xs i) c.list_of-in-Full.ensures m))

pub returns-in-Full-clause-combined : goal.returns-in-Full-clause-combined
returns-in-Full-clause-combined c =
    let a = stands c.args.store.now _ _ _ c.entries.ensures.value c.requires.number c.index-entries-number.is in
    combined_full c.args.store.now c.join_over-in-Full.new.store c.args.taken.now _ c.args.number c.index-entries-number.result
    (grown_on _ _ _ c.join_over.ensures.extends c.join_over-in-Full.ensures.extends) c.requires.number a c.in-Full.is c.requires.lists
    (λ i m. over_stays c.join_over.new.store c.join_over-in-Full.new.store c.args.number i c.index-entries-number.result.x c.join_over-in-Full.ensures.extends
    (number_grown _ _ _ c.join_over.ensures.extends c.requires.number)
    (number_grown _ _ _ c.join_over.ensures.extends (c.requires.lists.within c.index-entries-number.result.x i m))
    (c.join_over.ensures.joined i (subst (λ xs. Contains xs i) (sym c.list_of.ensures) m)))
    (λ i m. c.join_over-in-Full.ensures.joined i (subst (λ xs. Contains xs i) (sym c.list_of-in-Full.ensures) m))

pub choose-requires-clause-order : goal.choose-requires-clause-order
choose-requires-clause-order c
    = (c.entries.ensures.sound.valid _ _ (stands c.args.store.now _ _ _ c.entries.ensures.value c.requires.number c.index-entries-number.is)).order

pub choose-requires-clause-elements : goal.choose-requires-clause-elements
choose-requires-clause-elements c
    = (c.entries.ensures.sound.valid _ _ (stands c.args.store.now _ _ _ c.entries.ensures.value c.requires.number c.index-entries-number.is)).elements

pub choose-requires-clause-pair : goal.choose-requires-clause-pair
choose-requires-clause-pair c = λ a h.
    let e : c.index-entries-number.result ≡ a
    = same_Some _ a
    (sym (stands c.args.store.now _ _ _ c.entries.ensures.value c.requires.number c.index-entries-number.is) ∙ h) in
    (ap (λ (v : Entry). v.x) (sym e), ap (λ (v : Entry). v.y) (sym e))

pub returns-in-Semi-clause-combined : goal.returns-in-Semi-clause-combined
returns-in-Semi-clause-combined c =
    combined_semi c.args.store.now c.choose.new.store c.args.taken.now c.args.number c.index-entries-number.result c.choose.ensures.extends c.requires.number
    (stands c.args.store.now _ _ _ c.entries.ensures.value c.requires.number c.index-entries-number.is) c.in-Semi.is c.choose.ensures.twos
    c.choose.ensures.threes
