use Rattle.std.proofs.Common.{◌≡◌, ℕ, ◌+◌, ◌*◌, ◌/◌, ◌%◌, ◌<◌, List, length, set, slice_index, inl}
use Rattle.std.proofs.Common.{inr, refl, sym, ap, ◌∙◌, subst, arith}
use Rattle.std.specs.Prelude.{◌⊎◌}
use Rattle.std.proofs.lemmas.Grind.{get_or_default_zero}
use Rattle.trace_audit.specs.Slots.{IsNearTaken}
use Rattle.trace_audit.proofs.Slots.{entries_long, entries_set, entry_taken, slot_inside, slots_set}
use Rattle.trace_audit.proofs.index.Index.enter.Goals as goal
use Rattle.trace_audit.proofs.index.Index.enter.Goals.{else-slot-ne0-via-then-slot-ne0+else-slot-place}
use Rattle.trace_audit.proofs.index.Index.enter.Goals.{else-slot-ne0-via-else-slot-ne0}

pub index-slot-requires : goal.index-slot-requires
index-slot-requires c =
    let few : c.args.at < c.self.inside.len
    = omega (arith, c.requires.at, ap length c.self.view_is, entries_long 0 c.self.inside.len c.self.inside.slots.items) in
    omega (arith, slot_inside c.self.inside.len c.self.inside.slots.items c.self.invariant c.args.at few, c.self.inside.slots.ok.0)

pub returns-then-slot-place : goal.returns-then-slot-place
returns-then-slot-place c =
    let few : c.args.at < c.self.inside.len
    = omega (arith, c.requires.at, ap length c.self.view_is, entries_long 0 c.self.inside.len c.self.inside.slots.items) in
    let inside = slot_inside c.self.inside.len c.self.inside.slots.items c.self.invariant c.args.at few in
    let slot : c.index-slot.result.now ≡ slice_index c.self.inside.slots.items (c.args.at / 4)
    = c.index-slot.ensures
    ∙ get_or_default_zero c.self.inside.slots.items
    (c.args.at / 4) c.index-slot.result.now inside in
    subst (λ (l : List ℕ). IsNearTaken l c.args.at) c.self.view_is
    (entry_taken c.self.inside.len c.self.inside.slots.items c.self.invariant c.args.at few
    (λ e. c.if-slot-ne0.true (slot ∙ e))
    (λ e. c.if-slot-place.true (ap (λ (n : ℕ). n % 4) slot ∙ e)))

pub index_mut-requires : goal.index_mut-requires
index_mut-requires c =
    let few : c.args.at < c.self.inside.len
    = omega (arith, c.requires.at, ap length c.self.view_is, entries_long 0 c.self.inside.len c.self.inside.slots.items) in
    omega (arith, slot_inside c.self.inside.len c.self.inside.slots.items c.self.invariant c.args.at few, c.self.inside.slots.ok.0)

pub invariant_of-self : goal.invariant_of-self
invariant_of-self c =
    let few : c.args.at < c.self.inside.len
    = omega (arith, c.requires.at, ap length c.self.view_is, entries_long 0 c.self.inside.len c.self.inside.slots.items) in
    slots_set c.self.inside.len c.self.inside.slots.items c.self.invariant c.args.at few c.args.number (4 * c.args.number
    + c.args.at % 4) c.requires.least refl

pub returns : goal.returns
returns c =
    let few : c.args.at < c.self.inside.len
    = omega (arith, c.requires.at, ap length c.self.view_is, entries_long 0 c.self.inside.len c.self.inside.slots.items) in
    let inside = slot_inside c.self.inside.len c.self.inside.slots.items c.self.invariant c.args.at few in
    let slot : c.index-slot.result.now ≡ slice_index c.self.inside.slots.items (c.args.at / 4)
    = c.index-slot.ensures
    ∙ get_or_default_zero c.self.inside.slots.items
    (c.args.at / 4) c.index-slot.result.now inside in
    let free : (slice_index c.self.inside.slots.items (c.args.at / 4) ≡ 0) ⊎
    (slice_index c.self.inside.slots.items (c.args.at / 4) % 4 ≡ c.args.at % 4) = elim c.else-slot-ne0.branch [
      | else-slot-ne0-via-then-slot-ne0+else-slot-place w ↦ inr
          (ap (λ (n : ℕ). n % 4) (sym slot) ∙ w.if-slot-place.false)
      | else-slot-ne0-via-else-slot-ne0 w ↦ inl (sym slot ∙ w.if-slot-ne0.false)
    ] in
    entries_set c.self.inside.len c.self.inside.slots.items c.self.invariant c.args.at few c.args.number
    (4 * c.args.number + c.args.at % 4) c.requires.least refl free
    ∙ ap (λ (l : List ℕ). set l c.args.at c.args.number) c.self.view_is
