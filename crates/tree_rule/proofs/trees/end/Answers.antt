-- The words at the end are those of a state of the arena rule.
use Rattle.std.proofs.Common.{◌≡◌, ℕ, List, length, ap, sym, ◌∙◌, subst, arith}
use Rattle.std.specs.Mem.Slots.{slots_items, slots_counts}
use Rattle.tree_words.specs.Opening.{opening_words}
use Rattle.tree_words.proofs.NewBlocks.OpeningTold.{opening-are}
use Rattle.arena_rule.specs.Rule.{Rule}
use Rattle.tree_rule.specs.Ends.{IsSameBehind}
use Rattle.tree_rule.proofs.Ends.{beyond, last-rule}
use Rattle.arena_rule.specs.Owing.{view_of, views_of}
use Rattle.atomic_table.proofs.Lists.{at_map}
use Rattle.tree_rule.proofs.trees.end.Goals as goal
use Rattle.std.proofs.lemmas.List.{take_at}

pub copy_claimed-requires-clause-long : goal.copy_claimed-requires-clause-long
copy_claimed-requires-clause-long c =
    let stands = c.requires.stands in
    c.close_with-closed.ensures.counts.0 ∙ stands.words
    ∙ sym (ap length (c.deref_mut.ensures.value ∙ stands.room_is) ∙ (opening-are c.args.table.shared.key stands.setting).long)

pub copy_claimed-requires-clause-some : goal.copy_claimed-requires-clause-some
copy_claimed-requires-clause-some c =
    let stands = c.requires.stands in
    omega (arith, ap length (c.deref_mut.ensures.value ∙ stands.room_is), (opening-are c.args.table.shared.key stands.setting).long)

pub copy_claimed-requires-clause-same : goal.copy_claimed-requires-clause-same
copy_claimed-requires-clause-same c =
    let s = c.args.table.shared.key in
    let last = c.close_with-closed.ensures.values.2 in
    let words : List ℕ = slots_items c.close_with-closed.result.words in
    let same : IsSameBehind words (opening_words s)
    = subst (λ (ws : List ℕ). IsSameBehind ws (opening_words s)) last.2
    (beyond s last.0.words (views_of last.0.views) (last-rule s last.0.words last.0.views last.1.0
    c.args.seat.id c.args.seat.me.0 last.1.1 c.requires.owed c.requires.all c.requires.ended))
    in
    subst (λ (room : List ℕ). IsSameBehind words room)
    (sym (c.deref_mut.ensures.value ∙ c.requires.stands.room_is)) same

pub returns : goal.returns
returns c =
    let s = c.args.table.shared.key in
    let last = c.close_with-closed.ensures.values.2 in
    let copied = c.copy_claimed.ensures in
    let stands = c.requires.stands in
    let long : length c.deref_mut.result.now ≡ length c.copy_claimed.new.room
    = omega (
      arith,
      c.close_with-closed.ensures.counts.0,
      stands.words,
      ap length (c.deref_mut.ensures.value ∙ stands.room_is),
      (opening-are s stands.setting).long,
      (slots_counts c.close_with-closed.result.words).0,
      ap length copied,
    ) in
    let same = take_at c.copy_claimed.new.room _ c.args.room.len
    (sym long ∙ c.deref_mut.ensures.len) in
    record {
      views = views_of last.0.views;
      rule = subst (λ (words : List ℕ). Rule s words (views_of last.0.views)) (last.2 ∙ sym (same ∙ copied))
          (last-rule s last.0.words last.0.views last.1.0 c.args.seat.id c.args.seat.me.0 last.1.1 c.requires.owed c.requires.all c.requires.ended);
      at = at_map view_of last.0.views c.args.seat.id c.args.seat.me.0 last.1.1;
    }
