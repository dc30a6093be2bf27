use Rattle.std.proofs.Common.{bit_or, ap, rules, sym, ◌∙◌}
use Rattle.std.proofs.lemmas.Bool.{both_ways}
use Rattle.hex_cells.specs.Sets.{with_cell}
use Rattle.conn_store.specs.Over.{CanAnd}
use Rattle.conn_store.proofs.Chains.{ends_below}
use Rattle.conn_store.proofs.Overs.{no_end, no_rule, over_cell, over_group, rule_of}
use Rattle.conn_store.proofs.RuleEntries.{cell_gives, cell_next, entry_with, group_gives}
use Rattle.conn_store.proofs.RuleEntries.{group_next, stands}
use Rattle.conn_store.proofs.stores.Store.by_and.Goals as goal

pub is_apart-requires-clause-end : goal.is_apart-requires-clause-end
is_apart-requires-clause-end c =
    let b = stands c.args.self.now _ _ _ c.entries.ensures.value c.requires.other c.index-entries-other.is in
    (ends_below c.args.self.now.elements c.index-entries-other.result c.args.first.now.middle c.in_ok-y.y (c.entries.ensures.sound.valid _ _ b)
    c.in_ok-y.ensures.some).1

pub returns-in_err-y-clause-none : goal.returns-in_err-y-clause-none
returns-in_err-y-clause-none c =
    let b = stands c.args.self.now _ _ _ c.entries.ensures.value c.requires.other c.index-entries-other.is in
    let n : ¬ (CanAnd c.args.self.now c.args.first.now.number c.args.other c.args.first.now.middle) =
    no_end c.args.self.now c.args.first.now c.args.other c.index-entries-other.result b c.in_err-y.ensures.none in search rules

pub returns-then-not-is_apart-clause-none : goal.returns-then-not-is_apart-clause-none
returns-then-not-is_apart-clause-none c =
    let b = stands c.args.self.now _ _ _ c.entries.ensures.value c.requires.other c.index-entries-other.is in
    no_rule c.args.self.now c.args.first.now c.args.other c.index-entries-other.result c.in_ok-y.y c.requires.first b c.in_ok-y.ensures.some
    (λ a. both_ways c.is_apart.result c.if-not-is_apart.true (c.is_apart.ensures.1 a))

pub returns-in-None-clause-next : goal.returns-in-None-clause-next
returns-in-None-clause-next c =
    let o = c.requires.first in
    let b = stands c.args.self.now _ _ _ c.entries.ensures.value c.requires.other c.index-entries-other.is in
    let r = rule_of c.args.self.now.elements c.args.first.now o.entry.0 c.index-entries-other.result c.in_ok-y.y o.entry.2 o.entry.3 c.in_ok-y.ensures.some
    (c.is_apart.ensures.0 c.if-not-is_apart.false) in
    group_next c.args.self.now c.args.first.now.number c.args.other o.entry.0 c.index-entries-other.result _ _ _ _ c.entries.ensures.sound o.entry.1 b r
    (over_group c.args.self.now c.args.first.now o c.in-None.is)
    (entry_with _ _ _ _ _ _ _ (c.union-both.ensures.value ∙ ap (λ v. bit_or v c.index-entries-other.result.carrier) (sym o.entry.3)) c.entry_of.ensures)

pub returns-in-None-clause-gives : goal.returns-in-None-clause-gives
returns-in-None-clause-gives c =
    let o = c.requires.first in
    let b = stands c.args.self.now _ _ _ c.entries.ensures.value c.requires.other c.index-entries-other.is in
    let r = rule_of c.args.self.now.elements c.args.first.now o.entry.0 c.index-entries-other.result c.in_ok-y.y o.entry.2 o.entry.3 c.in_ok-y.ensures.some
    (c.is_apart.ensures.0 c.if-not-is_apart.false) in
    group_gives c.args.self.now c.args.first.now.number c.args.other o.entry.0 c.index-entries-other.result _ _ _ _ _ c.entries.ensures.sound o.entry.1 b r
    (over_group c.args.self.now c.args.first.now o c.in-None.is)
    (entry_with _ _ _ _ _ _ _ (c.union-both.ensures.value ∙ ap (λ v. bit_or v c.index-entries-other.result.carrier) (sym o.entry.3)) c.entry_of.ensures)

pub returns-in-Some-clause-next : goal.returns-in-Some-clause-next
returns-in-Some-clause-next c =
    let o = c.requires.first in
    let b = stands c.args.self.now _ _ _ c.entries.ensures.value c.requires.other c.index-entries-other.is in
    let r = rule_of c.args.self.now.elements c.args.first.now o.entry.0 c.index-entries-other.result c.in_ok-y.y o.entry.2 o.entry.3 c.in_ok-y.ensures.some
    (c.is_apart.ensures.0 c.if-not-is_apart.false) in
    let q = c.union-both.ensures.value ∙ ap (λ v. bit_or v c.index-entries-other.result.carrier)
    (sym o.entry.3) in
    cell_next c.args.self.now c.args.first.now.number c.args.other o.entry.0 c.index-entries-other.result _ _ _ _ c.in-Some.cell c.entries.ensures.sound
    o.entry.1 b r
    (over_cell c.args.self.now c.args.first.now c.in-Some.cell o c.in-Some.is).0
    (entry_with _ _ _ _ _ _ _ (c.with.ensures.value ∙ ap (λ v. with_cell v c.in-Some.cell) q) c.entry_of-in-Some.ensures)

pub returns-in-Some-clause-gives : goal.returns-in-Some-clause-gives
returns-in-Some-clause-gives c =
    let o = c.requires.first in
    let b = stands c.args.self.now _ _ _ c.entries.ensures.value c.requires.other c.index-entries-other.is in
    let r = rule_of c.args.self.now.elements c.args.first.now o.entry.0 c.index-entries-other.result c.in_ok-y.y o.entry.2 o.entry.3 c.in_ok-y.ensures.some
    (c.is_apart.ensures.0 c.if-not-is_apart.false) in
    let q = c.union-both.ensures.value ∙ ap (λ v. bit_or v c.index-entries-other.result.carrier)
    (sym o.entry.3) in
    cell_gives c.args.self.now c.args.first.now.number c.args.other o.entry.0 c.index-entries-other.result _ _ _ _ c.in-Some.cell _ c.entries.ensures.sound
    o.entry.1 b r
    (over_cell c.args.self.now c.args.first.now c.in-Some.cell o c.in-Some.is)
    (entry_with _ _ _ _ _ _ _ (c.with.ensures.value ∙ ap (λ v. with_cell v c.in-Some.cell) q) c.entry_of-in-Some.ensures)
