use Rattle.std.proofs.Common.{◌+◌, ◌*◌, slice_index, sym, ap, ◌∙◌, refl, arith}
use Rattle.tree_words.specs.Words.{cell_in}
use Rattle.seq_search.proofs.Ways.{way-fits, few-words, may-choose, may-go, step-count, step-room}
use Rattle.seq_search.proofs.Ways.{gone-way, begin-way, end-way}
use Rattle.seq_search.proofs.descending.descend.Goals as goal

pub down-init : goal.down-init
down-init c =
    let e = c.begin.ensures in
    (refl, e.room, λ bs k l h. begin-way c.args.shape.now c.begin.new.self e.board e.player e.node e.count bs c.args.words.now k h)

pub bounds-words-walk-in-down : goal.bounds-words-walk-in-down
bounds-words-walk-in-down c
    = let f = way-fits c.args.shape.now c.args.words.now c.down.walk c.requires c.down.invariant.2 in omega (arith, f)

pub choose-place-requires-clause-within : goal.choose-place-requires-clause-within
choose-place-requires-clause-within c =
    (may-choose c.args.shape.now c.args.words.now c.down.walk c.down.block c.begin.ensures.setting c.requires c.down.invariant.2 c.down.invariant.0
    c.down-test.true).within

pub choose-place-requires-clause-parent : goal.choose-place-requires-clause-parent
choose-place-requires-clause-parent c =
    let m = may-choose c.args.shape.now c.args.words.now c.down.walk c.down.block c.begin.ensures.setting c.requires c.down.invariant.2 c.down.invariant.0
    c.down-test.true in
    omega (arith, m.parent, c.visits_of-visits.ensures)

pub choose-place-requires-clause-counts : goal.choose-place-requires-clause-counts
choose-place-requires-clause-counts c =
    (may-choose c.args.shape.now c.args.words.now c.down.walk c.down.block c.begin.ensures.setting c.requires c.down.invariant.2 c.down.invariant.0
    c.down-test.true).counts

pub overflow_add-block-in-down : goal.overflow_add-block-in-down
overflow_add-block-in-down c =
    let m = may-choose c.args.shape.now c.args.words.now c.down.walk c.down.block c.begin.ensures.setting c.requires c.down.invariant.2 c.down.invariant.0
    c.down-test.true in
    let few = few-words c.args.shape.now c.args.words.now c.begin.ensures.setting c.requires in
    omega (arith, m.within, few)

pub overflow_mul-place : goal.overflow_mul-place
overflow_mul-place c =
    let g = may-go c.args.shape.now c.args.words.now c.down.walk c.down.block c.visits_of-visits.result c.knobs.result.now.weight c.choose-place.result
    c.begin.ensures.setting c.down.invariant.0 c.down-test.true
    c.visits_of-visits.ensures
    (ap (λ k. k.weight) c.knobs.ensures.value) c.choose-place.ensures c.requires c.down.invariant.2 c.down.invariant.1.size in
    let few = few-words c.args.shape.now c.args.words.now c.begin.ensures.setting c.requires in
    omega (arith, g.fits, few)

pub overflow_add-block-in-down-2 : goal.overflow_add-block-in-down-2
overflow_add-block-in-down-2 c =
    let g = may-go c.args.shape.now c.args.words.now c.down.walk c.down.block c.visits_of-visits.result c.knobs.result.now.weight c.choose-place.result
    c.begin.ensures.setting c.down.invariant.0 c.down-test.true
    c.visits_of-visits.ensures
    (ap (λ k. k.weight) c.knobs.ensures.value) c.choose-place.ensures c.requires c.down.invariant.2 c.down.invariant.1.size in
    let few = few-words c.args.shape.now c.args.words.now c.begin.ensures.setting c.requires in
    omega (arith, g.fits, few)

pub step-requires-clause-within : goal.step-requires-clause-within
step-requires-clause-within c =
    let g = may-go c.args.shape.now c.args.words.now c.down.walk c.down.block c.visits_of-visits.result c.knobs.result.now.weight c.choose-place.result
    c.begin.ensures.setting c.down.invariant.0 c.down-test.true
    c.visits_of-visits.ensures
    (ap (λ k. k.weight) c.knobs.ensures.value) c.choose-place.ensures c.requires c.down.invariant.2 c.down.invariant.1.size in
    omega (arith, g.fits)

pub step-requires-clause-empty : goal.step-requires-clause-empty
step-requires-clause-empty c =
    (may-go c.args.shape.now c.args.words.now c.down.walk c.down.block c.visits_of-visits.result c.knobs.result.now.weight c.choose-place.result
    c.begin.ensures.setting c.down.invariant.0 c.down-test.true
    c.visits_of-visits.ensures
    (ap (λ k. k.weight) c.knobs.ensures.value) c.choose-place.ensures c.requires c.down.invariant.2 c.down.invariant.1.size).empty

pub step-requires-clause-room : goal.step-requires-clause-room
step-requires-clause-room c =
    let g = may-go c.args.shape.now c.args.words.now c.down.walk c.down.block c.visits_of-visits.result c.knobs.result.now.weight c.choose-place.result
    c.begin.ensures.setting c.down.invariant.0 c.down-test.true
    c.visits_of-visits.ensures
    (ap (λ k. k.weight) c.knobs.ensures.value) c.choose-place.ensures c.requires c.down.invariant.2 c.down.invariant.1.size in
    step-count c.down.walk _ g.empty c.down.invariant.1

pub overflow_add-block-in-down-3 : goal.overflow_add-block-in-down-3
overflow_add-block-in-down-3 c =
    let g = may-go c.args.shape.now c.args.words.now c.down.walk c.down.block c.visits_of-visits.result c.knobs.result.now.weight c.choose-place.result
    c.begin.ensures.setting c.down.invariant.0 c.down-test.true
    c.visits_of-visits.ensures
    (ap (λ k. k.weight) c.knobs.ensures.value) c.choose-place.ensures c.requires c.down.invariant.2 c.down.invariant.1.size in
    let few = few-words c.args.shape.now c.args.words.now c.begin.ensures.setting c.requires in
    omega (arith, g.fits, few, c.step.ensures.node)

pub offset_bounds-words-walk-in-down-2 : goal.offset_bounds-words-walk-in-down-2
offset_bounds-words-walk-in-down-2 c =
    let g = may-go c.args.shape.now c.args.words.now c.down.walk c.down.block c.visits_of-visits.result c.knobs.result.now.weight c.choose-place.result
    c.begin.ensures.setting c.down.invariant.0 c.down-test.true
    c.visits_of-visits.ensures
    (ap (λ k. k.weight) c.knobs.ensures.value) c.choose-place.ensures c.requires c.down.invariant.2 c.down.invariant.1.size in
    let few = few-words c.args.shape.now c.args.words.now c.begin.ensures.setting c.requires in
    omega (arith, g.fits, few, c.step.ensures.node)

pub bounds-words-walk-in-down-2 : goal.bounds-words-walk-in-down-2
bounds-words-walk-in-down-2 c =
    let g = may-go c.args.shape.now c.args.words.now c.down.walk c.down.block c.visits_of-visits.result c.knobs.result.now.weight c.choose-place.result
    c.begin.ensures.setting c.down.invariant.0 c.down-test.true
    c.visits_of-visits.ensures
    (ap (λ k. k.weight) c.knobs.ensures.value) c.choose-place.ensures c.requires c.down.invariant.2 c.down.invariant.1.size in
    omega (arith, g.fits, c.step.ensures.node)

pub down-smaller : goal.down-smaller
down-smaller c =
    let g = may-go c.args.shape.now c.args.words.now c.down.walk c.down.block c.visits_of-visits.result c.knobs.result.now.weight c.choose-place.result
    c.begin.ensures.setting c.down.invariant.0 c.down-test.true
    c.visits_of-visits.ensures
    (ap (λ k. k.weight) c.knobs.ensures.value) c.choose-place.ensures c.requires c.down.invariant.2 c.down.invariant.1.size in
    omega (arith, g.fits, g.after, c.step.ensures.node)

pub down-preserved : goal.down-preserved
down-preserved c =
    let own = c.visits_of-visits.ensures in
    let same = ap (λ k. k.weight) c.knobs.ensures.value in
    let e = c.step.ensures in
    let g = may-go c.args.shape.now c.args.words.now c.down.walk c.down.block c.visits_of-visits.result c.knobs.result.now.weight c.choose-place.result
    c.begin.ensures.setting c.down.invariant.0 c.down-test.true
    own same c.choose-place.ensures c.requires c.down.invariant.2 c.down.invariant.1.size in (
      refl,
      step-room c.down.walk c.step.new.self
          (cell_in (slice_index c.args.words.now (c.down.block + 4 + 4 * c.choose-place.result)))
          (c.down.block + 4 + 4 * c.choose-place.result) e.board e.player e.node e.steps e.count g.empty c.down.invariant.1,
      gone-way c.args.shape.now c.args.words.now c.down.walk c.down.block c.visits_of-visits.result c.knobs.result.now.weight c.choose-place.result
          c.begin.ensures.setting c.down.invariant.0 c.down-test.true own same c.choose-place.ensures
          c.step.new.self e.board e.player e.node e.steps e.count c.down.invariant.1 c.down.invariant.2,
    )

pub returns : goal.returns
returns c = record {
  leaf = λ bs k l h. end-way c.args.shape.now bs c.args.words.now c.down.walk k h c.down.invariant.1 (c.down.invariant.2 bs k l h)
      (sym c.down.invariant.0 ∙ c.down-test.false);
}
