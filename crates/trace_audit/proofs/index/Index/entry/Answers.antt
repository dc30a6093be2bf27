use Rattle.std.proofs.Common.{◌≡◌, ℕ, ◌+◌, ◌/◌, ◌<◌, List, length, slice_index, sym, ap, ◌∙◌, arith}
use Rattle.std.proofs.lemmas.Grind.{get_or_default_zero}
use Rattle.trace_audit.specs.Slots.{entry_in}
use Rattle.trace_audit.proofs.Slots.{entries_at, entries_long, entry_other, entry_own, slot_inside}
use Rattle.trace_audit.proofs.index.Index.entry.Goals as goal

pub index-slot-requires : goal.index-slot-requires
index-slot-requires c =
    let few : c.args.at < c.self.inside.len
    = omega (arith, c.requires, ap length c.self.view_is, entries_long 0 c.self.inside.len c.self.inside.slots.items) in
    omega (arith, slot_inside c.self.inside.len c.self.inside.slots.items c.self.invariant c.args.at few, c.self.inside.slots.ok.0)

pub returns-then-slot-at : goal.returns-then-slot-at
returns-then-slot-at c =
    let few : c.args.at < c.self.inside.len
    = omega (arith, c.requires, ap length c.self.view_is, entries_long 0 c.self.inside.len c.self.inside.slots.items) in
    let inside = slot_inside c.self.inside.len c.self.inside.slots.items c.self.invariant c.args.at few in
    let slot : slice_index c.self.inside.slots.items (c.args.at / 4) ≡ c.index-slot.result.now
    = sym (c.index-slot.ensures ∙ get_or_default_zero c.self.inside.slots.items (c.args.at / 4) c.index-slot.result.now inside) in
    let zero_more : 0 + c.args.at ≡ c.args.at = omega arith in
    sym (ap (λ (l : List ℕ). slice_index l c.args.at) (sym c.self.view_is) ∙ entries_at 0 c.self.inside.len
    c.self.inside.slots.items c.args.at few ∙ ap (entry_in c.self.inside.slots.items) zero_more
    ∙ entry_own c.self.inside.slots.items c.args.at c.index-slot.result.now slot c.if-slot-at.true)

pub returns-else-slot-at : goal.returns-else-slot-at
returns-else-slot-at c =
    let few : c.args.at < c.self.inside.len
    = omega (arith, c.requires, ap length c.self.view_is, entries_long 0 c.self.inside.len c.self.inside.slots.items) in
    let inside = slot_inside c.self.inside.len c.self.inside.slots.items c.self.invariant c.args.at few in
    let slot : slice_index c.self.inside.slots.items (c.args.at / 4) ≡ c.index-slot.result.now
    = sym (c.index-slot.ensures ∙ get_or_default_zero c.self.inside.slots.items (c.args.at / 4) c.index-slot.result.now inside) in
    let zero_more : 0 + c.args.at ≡ c.args.at = omega arith in
    sym (ap (λ (l : List ℕ). slice_index l c.args.at) (sym c.self.view_is) ∙ entries_at 0 c.self.inside.len
    c.self.inside.slots.items c.args.at few ∙ ap (entry_in c.self.inside.slots.items) zero_more
    ∙ entry_other c.self.inside.slots.items c.args.at c.index-slot.result.now slot c.if-slot-at.false)
