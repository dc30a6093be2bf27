use Rattle.std.proofs.lemmas.Bool.{both_ways}
use Rattle.conn_store.proofs.RuleEntries.{entry_with, no_or_two, stands, two_next}
use Rattle.conn_store.proofs.stores.Store.by_or_two.Goals as goal

pub returns-then-not-are_two_ways-clause-none : goal.returns-then-not-are_two_ways-clause-none
returns-then-not-are_two_ways-clause-none c =
    let a = stands c.args.self.now _ _ _ c.entries.ensures.value c.requires.first c.index-entries-i.is in
    let b = stands c.args.self.now _ _ _ c.entries-2.ensures.value c.requires.second c.index-entries-j.is in
    no_or_two c.args.self.now c.args.i c.args.j c.index-entries-i.result c.index-entries-j.result
    (c.entries.ensures.sound.valid _ _ a).order a b
    (λ r. both_ways c.are_two_ways.result c.if-not-are_two_ways.true (c.are_two_ways.ensures.1 r))

pub returns-clause-next : goal.returns-clause-next
returns-clause-next c =
    two_next c.args.self.now c.args.i c.args.j c.index-entries-i.result c.index-entries-j.result c.entry_of.result c.entries.ensures.sound
    (stands c.args.self.now _ _ _ c.entries.ensures.value c.requires.first c.index-entries-i.is)
    (stands c.args.self.now _ _ _ c.entries-2.ensures.value c.requires.second c.index-entries-j.is)
    (c.are_two_ways.ensures.0 c.if-not-are_two_ways.false)
    (entry_with _ _ _ _ _ _ _ c.union-carrier.ensures.value c.entry_of.ensures)
