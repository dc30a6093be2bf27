-- The words are copied.
use Rattle.std.proofs.Common.{◌<◌, ◌≤◌, ⊎_elim, inl, inr, length, arith}
use Rattle.std.proofs.lemmas.Bool.{cases_lt}
use Rattle.std.specs.Mem.Slots.{slots_items}
use Rattle.tree_words.specs.Words.{next_in}
use Rattle.tree_rule.proofs.Copies.{found, copied-more, copied-all}
use Rattle.tree_rule.proofs.trees.copy_claimed.Goals as goal

pub loop-i-preserved : goal.loop-i-preserved
loop-i-preserved c =
    let words = slots_items c.args.table.now.words in
    copied-more words c.loop-i.room
    (next_in words) c.loop-i.i c.word-in-loop-i.result c.loop-i.invariant c.word-in-loop-i.ensures (omega (
      arith,
      c.loop-i-test.true,
      c.min-end.ensures,
      c.loop-i.auto.room,
    ))

pub returns : goal.returns
returns c =
    let words = slots_items c.args.table.now.words in
    let next = found words 0 c.word.result c.word.ensures in
    copied-all words c.loop-i.room (next_in words) c.loop-i.i c.loop-i.invariant
    (⊎_elim
    (λ (t : c.loop-i.i < length c.loop-i.room). inr (omega (arith, t, c.loop-i-test.false, c.min-end.ensures, c.loop-i.auto.room, next)))
    (λ (t : length c.loop-i.room ≤ c.loop-i.i). inl t)
    (cases_lt c.loop-i.i (length c.loop-i.room)))
