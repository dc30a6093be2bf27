use Rattle.std.proofs.Common.{bit_or, ap, ◌∙◌}
use Rattle.std.proofs.lemmas.Bool.{both_ways}
use Rattle.conn_store.proofs.RuleEntries.{entry_with, no_or_three, stands, three_next}
use Rattle.conn_store.proofs.stores.Store.by_or_three.Goals as goal

pub returns-then-not-are_three_ways-clause-none : goal.returns-then-not-are_three_ways-clause-none
returns-then-not-are_three_ways-clause-none c =
    let a = stands c.args.self.now _ _ _ c.entries.ensures.value c.requires.first c.index-entries-i.is in
    let b = stands c.args.self.now _ _ _ c.entries-2.ensures.value c.requires.second c.index-entries-j.is in
    let d = stands c.args.self.now _ _ _ c.entries-3.ensures.value c.requires.third c.index-entries-k.is in
    no_or_three c.args.self.now c.args.i c.args.j c.args.k c.index-entries-i.result c.index-entries-j.result c.index-entries-k.result
    (c.entries.ensures.sound.valid _ _ a).order a b d
    (λ r. both_ways c.are_three_ways.result c.if-not-are_three_ways.true (c.are_three_ways.ensures.1 r))

pub returns-clause-next : goal.returns-clause-next
returns-clause-next c =
    three_next c.args.self.now c.args.i c.args.j c.args.k c.index-entries-i.result c.index-entries-j.result c.index-entries-k.result c.entry_of.result
    c.entries.ensures.sound
    (stands c.args.self.now _ _ _ c.entries.ensures.value c.requires.first c.index-entries-i.is)
    (stands c.args.self.now _ _ _ c.entries-2.ensures.value c.requires.second c.index-entries-j.is)
    (stands c.args.self.now _ _ _ c.entries-3.ensures.value c.requires.third c.index-entries-k.is)
    (c.are_three_ways.ensures.0 c.if-not-are_three_ways.false)
    (entry_with _ _ _ _ _ _ _ (c.union-carrier.ensures.value ∙ ap (λ v. bit_or c.index-entries-i.result.carrier v) c.union.ensures.value) c.entry_of.ensures)
