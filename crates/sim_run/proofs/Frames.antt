-- What a step that fits does to a plain vector of words: its word lies within, and has room.
use Rattle.std.proofs.Common.{◌≡◌, ◌≢◌, ℕ, ◌+◌, ◌/◌, ◌^◌, ◌<◌, Bool, true, false, List, length}
use Rattle.std.proofs.Common.{refl, sym, subst, ⊎_elim, arith, get_or-set_same, get_or-set_other}
use Rattle.std.specs.Prelude.{slice_index}
use mathlib.Core.Option.{some}
use lib.ListN.{get_elem?}
use Rattle.tree_words.specs.Settings.{Setting}
use Rattle.tree_words.specs.Words.{ticket_in}
use Rattle.tree_words.specs.Blocks.{LinkedBlock}
use Rattle.tree_words.specs.Sequence.{amount_of}
use Rattle.tree_words.specs.declared.steps.Op.{Op}
use Rattle.tree_words.specs.declared.steps.Op.TheVariants.{Draw, Look, Claim, Write, Publish, Add}
use Rattle.tree_words.specs.declared.steps.Op.TheVariants.{Note, Done}
use Rattle.arena_rule.specs.Views.{SeatView}
use Rattle.arena_rule.specs.Fits.{FitsStep}
use Rattle.arena_rule.specs.Afters.{word_of, put, answer_of}
use Rattle.arena_rule.specs.Answers.{MayAnswer}
use Rattle.arena_rule.specs.Rule.{IsState, Rule, words_after}
use Rattle.arena_rule.proofs.Before.{Before}
use Rattle.arena_rule.proofs.Frames.{node-range, write-word, publish-word, add-word, note-low}
use Rattle.arena_rule.proofs.Reach.{low-same}
use Rattle.arena_rule.proofs.Widths.{few-words}
use Rattle.sim_run.specs.Plain.{FitsWord}

-- the state before a step of a seat
pub before : (s : Setting) (words : List ℕ) (views : List SeatView) (r : Rule s words views)
    (id : ℕ) (v : SeatView) → get_elem? views id ≡ some v → 0 < v.width
    → Before r.blocks words views id v
before s words views r id v at live = record {
  state = subst (λ (t : Setting). IsState t r.blocks words views)
      (sym (r.state.widths.each id v at).shape) r.state;
  at = at;
  live = live;
}

module _ (bs : List LinkedBlock) (words : List ℕ) (views : List SeatView) (id : ℕ) (v : SeatView)
    (b : Before bs words views id v) where
  pub within : (op : Op) → FitsStep v op → word_of op < length words
  within Draw fits = omega (arith, b.state.long)
  within (Look i) fits = omega (arith, b.state.long, fits)
  within (Claim size) fits = omega (arith, b.state.long)
  within (Write i value) fits = let t = write-word bs words views id v b i fits in let high = t.2 in
      omega (arith, b.state.long, high)
  within (Publish l c) fits =
      let t = publish-word bs words views id v b l c fits in
      omega (arith, b.state.long, t.2, (node-range bs words views id v b t.0 1 t.1 (omega arith)).1)
  within (Add i won) fits =
      let t = add-word bs words views id v b (record { word = i; won = won }) fits in
      ⊎_elim
      (λ (e : i ≡ t.0 + 2). omega (arith, b.state.long, e, (node-range bs words views id v b t.0 2 t.1 (omega arith)).1))
      (λ (e : (i ≡ t.0 + 3) × _). let q = e.0 in omega (arith, b.state.long, q, (node-range bs words views id v b t.0 3 t.1 (omega arith)).1))
      t.2
  within (Note k value) fits
      = omega (arith, b.state.long, note-low bs words views id v b k value fits)
  within Done fits = omega (arith, b.state.long)

  pub fits-word : (op : Op) → FitsStep v op
      → MayAnswer v op (answer_of op (slice_index words (word_of op)))
      → FitsWord op (slice_index words (word_of op))
  fits-word Draw fits may =
      let few = b.state.setting.ranges.playouts.1 in
      let most = b.state.setting.ranges.workers.1 in
      omega (arith, may.step.most, few, most)
  fits-word (Look i) fits may = tt
  fits-word (Claim size) fits may =
      let few = b.state.setting.ranges.playouts.1 in
      let most = b.state.setting.ranges.words.1 in
      omega (arith, may.step.most, few, most, few-words v size b.state.setting.position.most fits)
  fits-word (Write i value) fits may = tt
  fits-word (Publish l c) fits may = tt
  fits-word (Add i won) fits may =
      let few = b.state.setting.ranges.playouts.1 in
      by won (omega (arith, may.step, few))
    where
      by : (t : Bool) → slice_index words i / 4294967296 < 1000000
          → slice_index words i + amount_of t < 2 ^ 64
      by true l = omega (arith, l)
      by false l = omega (arith, l)
  fits-word (Note k value) fits may = tt
  fits-word Done fits may = tt

  -- TICKET grows at a Draw alone
  pub ticket-drawn : ticket_in (words_after words Draw) ≡ ticket_in words + 1
  ticket-drawn = get_or-set_same words 1 (ticket_in words + 1) 0 (omega (arith, b.state.long))

  pub ticket-stays : (op : Op) → FitsStep v op → op ≢ Draw
      → ticket_in (words_after words op) ≡ ticket_in words
  ticket-stays Draw fits ne = absurd (ne refl)
  ticket-stays (Look i) fits ne = low-same bs words views id v b (Look i) tt fits 1 (omega arith)
  ticket-stays (Claim size) fits ne
      = get_or-set_other words 0 1 (put (Claim size) (slice_index words 0)) 0 (λ e. omega (arith, e))
  ticket-stays (Write i value) fits ne = low-same bs words views id v b (Write i value) tt fits 1
      (omega arith)
  ticket-stays (Publish l c) fits ne = low-same bs words views id v b (Publish l c) tt fits 1
      (omega arith)
  ticket-stays (Add i won) fits ne = low-same bs words views id v b (Add i won) tt fits 1
      (omega arith)
  ticket-stays (Note k value) fits ne
      = get_or-set_other words (2 + k) 1 value 0 (λ e. omega (arith, e))
  ticket-stays Done fits ne = low-same bs words views id v b Done tt fits 1 (omega arith)
