-- The law: a step that fits keeps the rule and gives an answer that it may give, a split and a join
-- keep the rule, it holds of
-- the opening words, and at the end the tree is closed.
use Rattle.std.proofs.Common.{◌≡◌, ◌≢◌, ℕ, ◌<◌, List, [], ◌∷◌, refl, sym, ap, ◌∙◌, subst}
use Rattle.std.proofs.Common.{length-set, suc, ◌≤◌, arith, true}
use Rattle.std.specs.Prelude.{slice_index, replicate, sum_by}
use mathlib.Core.Option.{some}
use mathlib.Core.Logic.{dite}
use native.Mathlib.Decide.{ℕ_discrete}
use Rattle.std.proofs.lemmas.List.Sums.{sum_by-cons}
use lib.ListN.{get_elem?}
use Rattle.atomic_table.proofs.Lists.{set_here}
use Rattle.tree_words.specs.Settings.{Setting, IsSetting}
use Rattle.tree_words.specs.Words.{root_at, tally_in, seen_in}
use Rattle.tree_words.specs.Blocks.{LinkedBlock, size, is_node}
use Rattle.tree_words.specs.Told.{Knows}
use Rattle.tree_words.specs.Opening.{opening_words}
use Rattle.tree_words.specs.declared.steps.Op.{Op}
use Rattle.tree_words.specs.declared.steps.Op.TheVariants.{Draw, Look, Claim, Write, Publish, Add}
use Rattle.tree_words.specs.declared.steps.Op.TheVariants.{Note, Done}
use Rattle.tree_words.proofs.NewBlocks.OpeningTold.{opening-are}
use Rattle.arena_rule.specs.Views.{SeatView, new_view, opening_view}
use Rattle.arena_rule.specs.Fits.{FitsStep, CanSplit, CanJoin}
use Rattle.arena_rule.specs.Afters.{word_of, put, answer_of, after}
use Rattle.arena_rule.specs.Answers.{MayAnswer, AnswersStep, AnswersLink, AnswersTally, AnswersSeen}
use Rattle.arena_rule.specs.Parts.{AreLinked, width_of}
use Rattle.arena_rule.specs.Rule.{IsState, Rule, words_after, views_after, views_split}
use Rattle.arena_rule.specs.Rule.{views_joined}
use Rattle.tree_words.specs.Closing.{IsClosed}
use Rattle.arena_rule.specs.Closed.{HasAllWalks, IsLast, CountsRecords}
use Rattle.arena_rule.proofs.Before.{Before, Other, AreFirst, blocks_after, opening_blocks}
use Rattle.arena_rule.proofs.Totals.{inside}
use Rattle.arena_rule.proofs.Apart.{fresh-step, apart-step, held-step}
use Rattle.arena_rule.proofs.SumsLaw.{sums-step}
use Rattle.arena_rule.proofs.SeatsCounts.{sums-split, sums-join, sums-first}
use Rattle.arena_rule.proofs.Linking.{linked-step, known-step}
use Rattle.arena_rule.proofs.SeatsBlocks.{apart-split, apart-join, held-split, held-join}
use Rattle.arena_rule.proofs.SeatsBlocks.{known-split, known-join}
use Rattle.arena_rule.proofs.Opening.{fresh-first, apart-first, linked-first, held-first}
use Rattle.arena_rule.proofs.Opening.{known-first}
use Rattle.arena_rule.proofs.AnswersBlocks.{answers-link, answers-block, answers-claim}
use Rattle.arena_rule.proofs.AnswersCounts.{answers-tally, answers-seen, answers-add, wins-most}
use Rattle.arena_rule.proofs.Widths.{widths-step}
use Rattle.arena_rule.proofs.Tickets.{tickets-step}
use Rattle.arena_rule.proofs.InHand.{in_hand-step}
use Rattle.arena_rule.proofs.Sole.{sole-step, sole-split, sole-join, sole-first}
use Rattle.arena_rule.proofs.SeatsNumbers.{widths-split, widths-join, widths-first, tickets-split}
use Rattle.arena_rule.proofs.SeatsNumbers.{tickets-join, tickets-first, in_hand-split, in_hand-join}
use Rattle.arena_rule.proofs.SeatsNumbers.{in_hand-first}
use Rattle.arena_rule.proofs.Loaded.{loaded-step}
use Rattle.arena_rule.proofs.FirstVisits.{visits-step}
use Rattle.arena_rule.proofs.LeafBound.{leaf-step}
use Rattle.arena_rule.proofs.SeatsGrowth.{loaded-split, loaded-join, loaded-first, visits-split}
use Rattle.arena_rule.proofs.SeatsGrowth.{visits-join, visits-first, leaf-split, leaf-join}
use Rattle.arena_rule.proofs.SeatsGrowth.{leaf-first}
use Rattle.arena_rule.proofs.Room.{room-step}
use Rattle.arena_rule.proofs.SeatsRoom.{room-split, room-join, room-first}
use Rattle.arena_rule.proofs.LastSeat.{all-walks}
use Rattle.arena_rule.proofs.Closing.{closed}
use Rattle.arena_rule.proofs.Recorded.{count-records}
use Rattle.arena_rule.proofs.Firsts.{opening-first, ones-first}
use Rattle.arena_rule.proofs.AnswersNumbers.{answers-draw, answers-whole}

module _ (bs : List LinkedBlock) (words : List ℕ) (views : List SeatView) (id : ℕ) (v : SeatView)
    (b : Before bs words views id v) where
  -- what the seat itself knows after the step
  known-after : (op : Op) → FitsStep v op → Knows (root_at v.shape) (blocks_after bs words v op)
      (after v op (answer_of op (slice_index words (word_of op)))).known
  known-after op fits =
      let u : SeatView = after v op (answer_of op (slice_index words (word_of op))) in
      known-step bs words views id v b op fits id u (set_here views id u (inside views id v b.at))

  state-step : (op : Op) → FitsStep v op
      → IsState v.shape (blocks_after bs words v op) (words_after words op)
      (views_after words views id v op)
  state-step op fits =
      let linked : AreLinked v.shape (blocks_after bs words v op) (words_after words op)
      = linked-step bs words views id v b op fits in
      record {
        setting = b.state.setting;
        long = length-set words (word_of op) (put op (slice_index words (word_of op)))
            ∙ b.state.long;
        widths = widths-step bs words views id v b op fits;
        fresh = fresh-step bs words views id v b op fits;
        apart = apart-step bs words views id v b op fits;
        linked = linked;
        held = held-step bs words views id v b op fits;
        known = known-step bs words views id v b op fits;
        sums = sums-step bs words views id v b op fits linked.blocks.order;
        tickets = tickets-step bs words views id v b op fits linked.blocks.order;
        in_hand = in_hand-step bs words views id v b op fits (known-after op fits);
        sole = sole-step bs words views id v b op fits;
        loaded = loaded-step bs words views id v b op fits linked.blocks.order
            (known-after op fits) b.state.loaded;
        first_visits = visits-step bs words views id v b op fits linked.blocks.order
            (known-after op fits) b.state.loaded b.state.first_visits;
        leaf_bound = leaf-step bs words views id v b op fits linked.blocks.order b.state.loaded b.state.leaf_bound;
        room = room-step bs words views id v b op fits;
      }

  answers-step : (op : Op) → FitsStep v op
      → AnswersStep v op (answer_of op (slice_index words (word_of op)))
  answers-step Draw fits = answers-draw bs words views id v b
  answers-step (Look i) fits = record {
    link = λ x n e. subst (AnswersLink v x) (sym (ap (slice_index words) e))
        (answers-link bs words views id v b x n);
    block = λ c j n l t e. ap (slice_index words) e ∙ answers-block bs words views id v b c j n l t;
    tally = λ x n e. subst (AnswersTally v x) (sym (ap (slice_index words) e))
        (answers-tally bs words views id v b x n);
    seen = λ x n e. subst (AnswersSeen v) (sym (ap (slice_index words) e))
        (answers-seen bs words views id v b x n);
  }
  answers-step (Claim size) fits = answers-claim bs words views id v b size fits
  answers-step (Write i n) fits = refl
  answers-step (Publish l c) fits
      = λ x n e. subst (AnswersLink v x) (sym (ap (slice_index words) e))
      (answers-link bs words views id v b x n)
  answers-step (Add i won) fits
      = answers-add bs words views id v b (record { word = i; won = won }) fits
  answers-step (Note k n) fits = refl
  answers-step Done fits = tt

  state-split : (part : ℕ) → CanSplit v part
      → IsState v.shape bs words (views_split views id v part)
  state-split part can = record {
    setting = b.state.setting;
    long = b.state.long;
    widths = widths-split bs words views id v b part can;
    fresh = b.state.fresh;
    apart = apart-split bs words views id v b part can;
    linked = b.state.linked;
    held = held-split bs words views id v b part can;
    known = known-split bs words views id v b part can;
    sums = sums-split bs words views id v b part can;
    tickets = tickets-split bs words views id v b part can;
    in_hand = in_hand-split bs words views id v b part can;
    sole = sole-split bs words views id v b part can;
    loaded = loaded-split bs words views id v b part can b.state.loaded;
    first_visits = visits-split bs words views id v b part can b.state.first_visits;
    leaf_bound = leaf-split bs words views id v b part can b.state.leaf_bound;
    room = room-split bs words views id v b part can;
  }

  state-join : (other : ℕ) (w : SeatView) → Other views id v other w
      → IsState v.shape bs words (views_joined views id v other w)
  state-join other w o = record {
    setting = b.state.setting;
    long = b.state.long;
    widths = widths-join bs words views id v b other w o;
    fresh = b.state.fresh;
    apart = apart-join bs words views id v b other w o;
    linked = b.state.linked;
    held = held-join bs words views id v b other w o;
    known = known-join bs words views id v b other w o;
    sums = sums-join bs words views id v b other w o;
    tickets = tickets-join bs words views id v b other w o;
    in_hand = in_hand-join bs words views id v b other w o;
    sole = sole-join bs words views id v b other w o;
    loaded = loaded-join bs words views id v b other w o b.state.loaded;
    first_visits = visits-join bs words views id v b other w o b.state.first_visits;
    leaf_bound = leaf-join bs words views id v b other w o b.state.leaf_bound;
    room = room-join bs words views id v b other w o;
  }

-- the rule holds of the opening words with the first views
pub state-first : (s : Setting) (views : List SeatView) → IsSetting s → AreFirst s views
    → IsState s (opening_blocks s) (opening_words s) views
state-first s views h f = record {
  setting = h;
  long = (opening-are s h).long;
  widths = widths-first s views h f;
  fresh = fresh-first s views h f;
  apart = apart-first s views h f;
  linked = linked-first s views h f;
  held = held-first s views h f;
  known = known-first s views h f;
  sums = sums-first s views h f;
  tickets = tickets-first s views h f;
  in_hand = in_hand-first s views h f;
  sole = sole-first s views h f;
  loaded = loaded-first s views h f;
  first_visits = visits-first s views h f;
  leaf_bound = leaf-first s views h f;
  room = room-first s views h f;
}

-- the state before a step, over the shape of the view that steps
before : (s : Setting) (bs : List LinkedBlock) (words : List ℕ) (views : List SeatView) (id : ℕ)
    (v : SeatView) → IsState s bs words views → get_elem? views id ≡ some v → 0 < v.width
    → Before bs words views id v
before s bs words views id v st at live
    = record { state = subst (λ (t : Setting). IsState t bs words views) (sym (st.widths.each id v at).shape) st; at = at; live = live }

rule-of : (s : Setting) (bs : List LinkedBlock) (words : List ℕ) (views : List SeatView)
    (t : Setting) → t ≡ s → IsState t bs words views → Rule s words views
rule-of s bs words views t e st
    = record { blocks = bs; state = subst (λ (t : Setting). IsState t bs words views) e st }

module _ (s : Setting) (words : List ℕ) (views : List SeatView) (r : Rule s words views) (id : ℕ)
    (v : SeatView) (at : get_elem? views id ≡ some v) (live : 0 < v.width) where
  b : Before r.blocks words views id v
  b = before s r.blocks words views id v r.state at live

  shape : v.shape ≡ s
  shape = (r.state.widths.each id v at).shape

  pub steps : (op : Op) → FitsStep v op
      → Rule s (words_after words op) (views_after words views id v op)
  steps op fits = rule-of s (blocks_after r.blocks words v op) (words_after words op)
      (views_after words views id v op) v.shape shape (state-step r.blocks words views id v b op fits)

  pub answers : (op : Op) → FitsStep v op
      → MayAnswer v op (answer_of op (slice_index words (word_of op)))
  answers op fits
      = record { step = answers-step r.blocks words views id v b op fits; whole = answers-whole r.blocks words views id v b op fits }

  pub splits : (part : ℕ) → CanSplit v part → Rule s words (views_split views id v part)
  splits part can = rule-of s r.blocks words (views_split views id v part) v.shape shape
      (state-split r.blocks words views id v b part can)

  pub joins : (other : ℕ) (w : SeatView) → get_elem? views other ≡ some w → other ≢ id → 0 < w.width
      → CanJoin v w → Rule s words (views_joined views id v other w)
  joins other w there ne more can
      = rule-of s r.blocks words (views_joined views id v other w) v.shape shape
      (state-join r.blocks words views id v b other w (record { at = there; differ = ne; live = more; can = can }))

pub begins : (s : Setting) → IsSetting s → Rule s (opening_words s) (opening_view s ∷ [])
begins s h = record { blocks = opening_blocks s; state = state-first s (opening_view s ∷ []) h (opening-first s h) }

pub begins-apart : (s : Setting) → IsSetting s
    → Rule s (opening_words s) (replicate s.knobs.workers (new_view s 1 []))
begins-apart s h
    = record { blocks = opening_blocks s; state = state-first s (replicate s.knobs.workers (new_view s 1 [])) h (ones-first s h) }

-- some seat is not spent, since the widths add up to K
live : (views : List SeatView) → 0 < sum_by width_of views → (id : ℕ) × (v : SeatView)
    × (get_elem? views id ≡ some v) × (0 < v.width)
live [] l = absurd (omega arith)
live (v ∷ views) l = dite (ℕ_discrete v.width 0)
    (λ (e : v.width ≡ 0). let t = live views (omega (arith, l, e, sum_by-cons width_of v views)) in (suc t.0, t.1, t.2, t.3))
    (λ (ne : v.width ≢ 0). (0, v, refl, omega (arith, ne)))

pub wins : (s : Setting) (words : List ℕ) (views : List SeatView) (r : Rule s words views) (x : ℕ)
    → is_node (root_at s) r.blocks x ≡ true
    → ((tally_in words x).wins ≤ (tally_in words x).visits)
    × ((seen_in words x).wins ≤ (seen_in words x).visits)
wins s words views r x n =
    let t = live views (omega (arith, r.state.widths.sum, r.state.setting.ranges.workers.0)) in
    let b : Before r.blocks words views t.0 t.1
    = before s r.blocks words views t.0 t.1 r.state t.2 t.3 in
    wins-most r.blocks words views t.0 t.1 b x
    (subst (λ (z : Setting). is_node (root_at z) r.blocks x ≡ true) (sym (r.state.widths.each t.0 t.1 t.2).shape) n)

module _ (s : Setting) (words : List ℕ) (views : List SeatView) (r : Rule s words views) where
  -- with one seat left, whose workers have ended, the tree is closed, and the seat has all walks
  module _ (id : ℕ) (v : SeatView) (last : IsLast s views id v) where
    end : Before r.blocks words views id v
    end = before s r.blocks words views id v r.state last.seat.at last.seat.live

    shape-end : v.shape ≡ s
    shape-end = (r.state.widths.each id v last.seat.at).shape

    full : v.width ≡ v.shape.knobs.workers
    full = last.width ∙ sym (ap (λ (t : Setting). t.knobs.workers) shape-end)

    pub closes : IsClosed s words
    closes = subst (λ (t : Setting). IsClosed t words) shape-end
        (closed r.blocks words views id v end full last.ended)

    pub closes-walks : HasAllWalks s v
    closes-walks = subst (λ (t : Setting). HasAllWalks t v) shape-end
        (all-walks r.blocks words views id v end full last.ended)

  -- the counts are those of the records
  pub counts : CountsRecords s r.blocks (record { words = words; views = views })
  counts = count-records s r.blocks words views r.state
