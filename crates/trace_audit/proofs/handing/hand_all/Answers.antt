use Rattle.std.proofs.Common.{◌≡◌, ℕ, ◌+◌, ◌-◌, List, slice_index, sym, ap, ◌∙◌, subst, arith}
use Rattle.tree_words.specs.Blocks.{LinkedBlock}
use Rattle.tree_words.specs.Words.{end_of}
use Rattle.trace_audit.specs.Sums.{AreHanded}
use Rattle.trace_audit.proofs.HandedAll.{all_handed, handed_none, handed_past}
use Rattle.trace_audit.proofs.LinkedLaws.{entry_block}
use Rattle.trace_audit.proofs.handing.hand_all.Goals as goal

pub words-init : goal.words-init
words-init c =
    let s = c.args.shape.now in
    let end : end_of s ≡ c.len-at.result = sym (c.len-at.ensures ∙ c.requires.long) in (
      omega (arith, end),
      omega (arith, end),
      λ bs lk a. subst (AreHanded s bs c.args.words.now c.args.sums.now) end
          (handed_none s c.args.words.now bs c.keeps.ensures.setting lk.linked c.args.sums.now a),
    )

pub hand_up-requires-clause-sums : goal.hand_up-requires-clause-sums
hand_up-requires-clause-sums c =
    let s = c.args.shape.now in
    let h = c.keeps.ensures.setting in
    let bs : List LinkedBlock = c.requires.sums.0 in
    let lk = c.requires.sums.1 in
    let i = c.words.invariant in
    let long = lk.table.long in
    let at : ℕ = c.words.at - 1 in
    let next : c.words.at ≡ at + 1 = omega (arith, c.words-test.true) in
    let some = c.entry.ensures in
    let f = entry_block s c.args.words.now c.args.table.now bs h lk at
    (omega (arith, some, c.if-entry-ne0.true)) in
    (bs, f.0, lk.linked, f.1, f.2, subst (AreHanded s bs c.args.words.now c.words.sums) next (i.2 bs lk c.requires.sums.2))

pub words-preserved-then-entry-ne0 : goal.words-preserved-then-entry-ne0
words-preserved-then-entry-ne0 c =
    let s = c.args.shape.now in
    let h = c.keeps.ensures.setting in
    let i = c.words.invariant in
    let at : ℕ = c.words.at - 1 in
    let next : c.words.at ≡ at + 1 = omega (arith, c.words-test.true) in (
      omega (arith, i.0),
      omega (arith, c.words-test.true, c.area-area.ensures),
      λ bs lk a.
          let long = lk.table.long in
          let some = c.entry.ensures in
          let f = entry_block s c.args.words.now c.args.table.now bs h lk at
          (omega (arith, some, c.if-entry-ne0.true)) in
          c.hand_up.ensures bs f.0 lk.linked f.1 f.2
          (subst (AreHanded s bs c.args.words.now c.words.sums) next (i.2 bs lk a)),
    )

pub words-preserved : goal.words-preserved
words-preserved c =
    let s = c.args.shape.now in
    let h = c.keeps.ensures.setting in
    let i = c.words.invariant in
    let at : ℕ = c.words.at - 1 in
    let area = c.area-area.ensures in
    let next : c.words.at ≡ at + 1 = omega (arith, c.words-test.true) in (
      omega (arith, i.0),
      omega (arith, c.words-test.true, area),
      λ bs lk a.
          let long = lk.table.long in
          let none = c.entry.ensures in
          handed_past s c.args.words.now bs h lk.linked c.words.sums at
          (λ b j e. let some = lk.entered b j in omega (arith, some, ap (slice_index c.args.table.now.index) e, none, c.if-entry-ne0.false))
          (omega (arith, c.words-test.true, area))
          (subst (AreHanded s bs c.args.words.now c.words.sums) next (i.2 bs lk a)),
    )

pub returns : goal.returns
returns c = λ bs lk a.
    let i = c.words.invariant in
    let area = c.area-area.ensures in
    let low = i.1 in
    all_handed c.args.shape.now c.args.words.now bs c.keeps.ensures.setting lk.linked c.words.sums c.words.at (omega (arith, c.words-test.false, area))
    (omega (arith, low)) (i.2 bs lk a)
