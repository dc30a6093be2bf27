use Rattle.std.proofs.Common.{◌≡◌, ◌+◌, ◌*◌, ap, refl, sym, ◌∙◌, subst, arith}
use Rattle.std.proofs.Math.ListN.{set as set_word}
use Rattle.hex_cells.specs.Sets.{has as has_cell}
use Rattle.tree_words.proofs.NewBlocks.Writes.{Moved, moved-none, moved-one, moved-past, few_places}
use Rattle.tree_words.proofs.NewBlocks.Writes.{moved-few}
use Rattle.tree_words.proofs.writing.write_moves.Goals as goal
use Rattle.tree_words.proofs.writing.write_moves.Goals.{then-has, else-has}

pub loop-k-init : goal.loop-k-init
loop-k-init c = moved-none c.args.start c.args.cells c.args.words.now

pub bounds-words-start : goal.bounds-words-start
bounds-words-start c =
    let few = few_places c.args.start c.args.cells
    (c.args.size * c.args.size) c.loop-k.k c.loop-k.place c.args.words.now c.loop-k.words c.loop-k.invariant
    (omega (arith, c.loop-k-test.true, c.cells-k-end.ensures.value))
    (sym (c.has.ensures ∙ ap (has_cell c.args.cells) c.numbered.ensures) ∙ c.if-has.true) in
    omega (arith, few, c.requires.within, c.loop-k.auto.words, c.from.ensures)

pub overflow_mul-words : goal.overflow_mul-words
overflow_mul-words c =
    let few = few_places c.args.start c.args.cells
    (c.args.size * c.args.size) c.loop-k.k c.loop-k.place c.args.words.now c.loop-k.words c.loop-k.invariant
    (omega (arith, c.loop-k-test.true, c.cells-k-end.ensures.value))
    (sym (c.has.ensures ∙ ap (has_cell c.args.cells) c.numbered.ensures) ∙ c.if-has.true) in
    omega (
      arith,
      moved-few c.args.start c.args.cells c.args.words.now c.loop-k.words c.loop-k.place c.loop-k.k c.loop-k.invariant,
      c.loop-k-test.true,
      c.cells-k-end.ensures,
      c.loop-k.auto.words,
    )

pub overflow_add-words : goal.overflow_add-words
overflow_add-words c =
    let few = few_places c.args.start c.args.cells
    (c.args.size * c.args.size) c.loop-k.k c.loop-k.place c.args.words.now c.loop-k.words c.loop-k.invariant
    (omega (arith, c.loop-k-test.true, c.cells-k-end.ensures.value))
    (sym (c.has.ensures ∙ ap (has_cell c.args.cells) c.numbered.ensures) ∙ c.if-has.true) in
    omega (
      arith,
      moved-few c.args.start c.args.cells c.args.words.now c.loop-k.words c.loop-k.place c.loop-k.k c.loop-k.invariant,
      c.loop-k-test.true,
      c.cells-k-end.ensures,
      c.loop-k.auto.words,
      c.from.ensures,
    )

pub overflow_mul-words-then-has : goal.overflow_mul-words-then-has
overflow_mul-words-then-has c =
    let few = few_places c.args.start c.args.cells
    (c.args.size * c.args.size) c.loop-k.k c.loop-k.place c.args.words.now c.loop-k.words c.loop-k.invariant
    (omega (arith, c.loop-k-test.true, c.cells-k-end.ensures.value))
    (sym (c.has.ensures ∙ ap (has_cell c.args.cells) c.numbered.ensures) ∙ c.if-has.true) in
    omega (arith, few, c.requires.within, c.loop-k.auto.words, c.from.ensures)

pub overflow_add-words-then-has-2 : goal.overflow_add-words-then-has-2
overflow_add-words-then-has-2 c =
    let few = few_places c.args.start c.args.cells
    (c.args.size * c.args.size) c.loop-k.k c.loop-k.place c.args.words.now c.loop-k.words c.loop-k.invariant
    (omega (arith, c.loop-k-test.true, c.cells-k-end.ensures.value))
    (sym (c.has.ensures ∙ ap (has_cell c.args.cells) c.numbered.ensures) ∙ c.if-has.true) in
    omega (arith, few, c.requires.within, c.loop-k.auto.words, c.from.ensures)

pub offset_bounds-words-start : goal.offset_bounds-words-start
offset_bounds-words-start c =
    let few = few_places c.args.start c.args.cells
    (c.args.size * c.args.size) c.loop-k.k c.loop-k.place c.args.words.now c.loop-k.words c.loop-k.invariant
    (omega (arith, c.loop-k-test.true, c.cells-k-end.ensures.value))
    (sym (c.has.ensures ∙ ap (has_cell c.args.cells) c.numbered.ensures) ∙ c.if-has.true) in
    omega (arith, few, c.requires.within, c.loop-k.auto.words, c.from.ensures)

pub overflow_add-place : goal.overflow_add-place
overflow_add-place c =
    let few = few_places c.args.start c.args.cells
    (c.args.size * c.args.size) c.loop-k.k c.loop-k.place c.args.words.now c.loop-k.words c.loop-k.invariant
    (omega (arith, c.loop-k-test.true, c.cells-k-end.ensures.value))
    (sym (c.has.ensures ∙ ap (has_cell c.args.cells) c.numbered.ensures) ∙ c.if-has.true) in
    omega (arith, few, c.requires.within, c.loop-k.auto.words, c.from.ensures)

pub loop-k-preserved : goal.loop-k-preserved
loop-k-preserved c =
    let in_set : has_cell c.args.cells c.loop-k.k ≡ c.has.result
    = sym (c.has.ensures ∙ ap (has_cell c.args.cells) c.numbered.ensures) in
    elim c.if-has.branch [
      | then-has w ↦ subst (λ l. Moved c.args.start c.args.cells c.args.words.now l c.if-has.place (c.loop-k.k + 1)) (sym w.words-is)
          (subst (λ n. Moved c.args.start c.args.cells c.args.words.now (set_word c.loop-k.words (c.args.start + 4 + 4 * c.loop-k.place) (256 * c.loop-k.place
          + w.from.result)) n (c.loop-k.k + 1)) (sym w.place-is)
          (subst (λ v. Moved c.args.start c.args.cells c.args.words.now (set_word c.loop-k.words (c.args.start + 4 + 4 * c.loop-k.place) (256 * c.loop-k.place
          + v)) (c.loop-k.place + 1) (c.loop-k.k + 1)) (sym w.from.ensures)
          (let few = few_places c.args.start c.args.cells (c.args.size * c.args.size) c.loop-k.k c.loop-k.place c.args.words.now c.loop-k.words
          c.loop-k.invariant
          (omega (arith, c.loop-k-test.true, c.cells-k-end.ensures.value))
          (in_set ∙ w.if-has.true) in
          moved-one c.args.start c.args.cells c.args.words.now c.loop-k.words c.loop-k.place c.loop-k.k (c.args.start + 4
          + 4 * c.loop-k.place) c.loop-k.invariant (in_set ∙ w.if-has.true) refl
          (omega (arith, few, c.requires.within, c.loop-k.auto.words)))))
      | else-has w ↦ subst (λ l. Moved c.args.start c.args.cells c.args.words.now l c.if-has.place (c.loop-k.k + 1)) (sym w.words-is)
          (subst (λ n. Moved c.args.start c.args.cells c.args.words.now c.loop-k.words n (c.loop-k.k + 1)) (sym w.place-is)
          (moved-past c.args.start c.args.cells c.args.words.now c.loop-k.words c.loop-k.place c.loop-k.k c.loop-k.invariant (in_set ∙ w.if-has.false)))
    ]
