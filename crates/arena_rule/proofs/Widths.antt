-- Each step keeps Widths.
use Rattle.std.proofs.Common.{◌≡◌, ◌⊎◌, ℕ, ◌+◌, ◌<◌, ◌≤◌, Bool, true, false, cond, List, [], set}
use Rattle.std.proofs.Common.{Some, refl, ap, ◌∙◌, ⊎_elim, inl, inr, arith, get_or-set_same}
use Rattle.std.proofs.Common.{get_or-set_other}
use Rattle.std.specs.Prelude.{slice_index, sum_by}
use mathlib.Core.Option.{some}
use lib.ListN.{get_elem?}
use Rattle.tree_words.specs.Words.{end_of, next_in, ticket_in}
use Rattle.tree_words.specs.Blocks.{LinkedBlock}
use Rattle.tree_words.specs.Paths.{NodeState, node_state}
use Rattle.tree_words.specs.declared.steps.Op.{Op}
use Rattle.tree_words.specs.declared.steps.Op.TheVariants.{Draw, Look, Claim, Write, Publish, Add}
use Rattle.tree_words.specs.declared.steps.Op.TheVariants.{Note, Done}
use Rattle.tree_words.proofs.Walks.Asking.{size-most, spot-size}
use Rattle.arena_rule.specs.Views.{SeatView}
use Rattle.arena_rule.specs.Fits.{FitsStep, FitsDraw, FitsClaim}
use Rattle.arena_rule.specs.Afters.{word_of, answer_of, after, drew, claimed_at, with_word, looked}
use Rattle.arena_rule.specs.Afters.{wrote, published, added_at, noted}
use Rattle.arena_rule.specs.Parts.{HasWidth, Widths, width_of, ended_of, full_width}
use Rattle.arena_rule.specs.Rule.{words_after, views_after}
use Rattle.arena_rule.proofs.Before.{Before}
use Rattle.arena_rule.proofs.Totals.{total_set, each-set}
use Rattle.arena_rule.proofs.Changes.{drew_cases, claimed_cases, shape-after, width-after}
use Rattle.arena_rule.proofs.Changes.{drew_same, claimed_same}
use Rattle.arena_rule.proofs.Reach.{IsHigh, low-same}

-- a block has at most 488 words
pub few-words : (v : SeatView) (size : ℕ) → v.shape.board.size ≤ 11 → FitsClaim v size → size ≤ 488
few-words v size small fits =
    let p : NodeState = node_state v.shape v.known fits.node in
    let few : p.board.size ≤ 11 = omega (arith, small, spot-size v.shape v.known fits.node) in
    omega (arith, fits.may.fits, size-most p few)

module _ (bs : List LinkedBlock) (words : List ℕ) (views : List SeatView) (id : ℕ) (v : SeatView)
    (b : Before bs words views id v) where
  -- a view of the same shape and width, of which no more workers have ended
  pub width-set : (u : SeatView) → u.shape ≡ v.shape → u.width ≡ v.width → u.ended ≤ u.width
      → (j : ℕ) (w : SeatView) → get_elem? (set views id u) j ≡ some w → HasWidth v.shape w
  width-set u s w e
      = each-set (HasWidth v.shape) views id u (λ j x _ at. b.state.widths.each j x at)
      record { shape = s; ended = e; spent = λ z. absurd (let live = b.live in omega (arith, w, z)) }

  -- if nothing that Widths reads has changed
  frame : (u : SeatView) (words' : List ℕ) → u.shape ≡ v.shape → u.width ≡ v.width
      → u.ended ≡ v.ended → full_width u ≡ full_width v
      → ticket_in words' ≡ ticket_in words → next_in words' ≡ next_in words
      → Widths v.shape words' (set views id u)
  frame u words' s w e f t n =
      let old : Widths v.shape words views = b.state.widths in
      let ended : sum_by ended_of (set views id u) ≡ sum_by ended_of views
      = omega (arith, total_set ended_of views id v u b.at, e) in
      let full : sum_by full_width (set views id u) ≡ sum_by full_width views
      = omega (arith, total_set full_width views id v u b.at, f) in
      record {
        each = width-set u s w (omega (arith, w, e, (old.each id v b.at).ended));
        sum = omega (arith, total_set width_of views id v u b.at, w, old.sum);
        ticket = omega (arith, t, ended, old.ticket);
        ended = λ h. omega (arith, t, old.ended (omega (arith, h, ended)));
        next = omega (arith, n, full, old.next);
        full = λ h. omega (arith, n, old.full (omega (arith, h, full)));
      }

  high : (op : Op) → IsHigh op → FitsStep v op
      → (after v op (answer_of op (slice_index words (word_of op)))).ended ≡ v.ended
      → full_width (after v op (answer_of op (slice_index words (word_of op)))) ≡ full_width v
      → Widths v.shape (words_after words op) (views_after words views id v op)
  high op h fits e f =
      let x : ℕ = answer_of op (slice_index words (word_of op)) in
      frame (after v op x) (words_after words op) (shape-after v op x) (width-after v op x) e f
      (low-same bs words views id v b op h fits 1 (omega arith))
      (low-same bs words views id v b op h fits 0 (omega arith))

  -- TICKET grows by 1: a number below N was drawn, or one more worker has ended
  drawn : (u : SeatView) → FitsDraw v → u.shape ≡ v.shape → u.width ≡ v.width
      → full_width u ≡ full_width v
      → ((ticket_in words < v.shape.knobs.playouts) × (u.ended ≡ v.ended)) ⊎ ((v.shape.knobs.playouts ≤ ticket_in words) × (u.ended ≡ 1))
      → Widths v.shape (words_after words Draw) (set views id u)
  drawn u fits s w f cases =
      let old : Widths v.shape words views = b.state.widths in
      let ended = total_set ended_of views id v u b.at in
      let full : sum_by full_width (set views id u) ≡ sum_by full_width views
      = omega (arith, total_set full_width views id v u b.at, f) in
      let t : ticket_in (words_after words Draw) ≡ ticket_in words + 1
      = get_or-set_same words 1 (ticket_in words + 1) 0 (omega (arith, b.state.long)) in
      let n : next_in (words_after words Draw) ≡ next_in words
      = get_or-set_other words 1 0 (ticket_in words + 1) 0 (λ e. omega (arith, e)) in
      record {
        each = width-set u s w (⊎_elim
            (λ (c : (ticket_in words < v.shape.knobs.playouts) × (u.ended ≡ v.ended)). let e = c.1 in omega (arith, w, e, (old.each id v b.at).ended))
            (λ (c : (v.shape.knobs.playouts ≤ ticket_in words) × (u.ended ≡ 1)). let e = c.1 in omega (arith, w, e, fits.width))
            cases);
        sum = omega (arith, total_set width_of views id v u b.at, w, old.sum);
        ticket = ⊎_elim
            (λ (c : (ticket_in words < v.shape.knobs.playouts) × (u.ended ≡ v.ended)). let e = c.1 in let l = c.0 in omega (arith, t, l))
            (λ (c : (v.shape.knobs.playouts ≤ ticket_in words) × (u.ended ≡ 1)). let e = c.1 in omega (arith, t, e, ended, fits.ended, old.ticket))
            cases;
        ended = λ h. ⊎_elim
            (λ (c : (ticket_in words < v.shape.knobs.playouts) × (u.ended ≡ v.ended)). let e = c.1 in omega (
              arith,
              t,
              old.ended (omega (arith, h, ended, e)),
            ))
            (λ (c : (v.shape.knobs.playouts ≤ ticket_in words) × (u.ended ≡ 1)). let l = c.0 in omega (arith, t, l))
            cases;
        next = omega (arith, n, full, old.next);
        full = λ h. omega (arith, n, old.full (omega (arith, h, full)));
      }

  widths-draw : FitsDraw v
      → Widths v.shape (words_after words Draw) (views_after words views id v Draw)
  unfolding with_word
  widths-draw fits =
      let x : ℕ = ticket_in words in
      let u : SeatView = after v Draw x in
      let L : Type 0 = (x < v.shape.knobs.playouts) × (u.ended ≡ v.ended) in
      let R : Type 0 = (v.shape.knobs.playouts ≤ x) × (u.ended ≡ 1) in
      let cases : L ⊎ R = ⊎_elim
      (λ (c : (x < v.shape.knobs.playouts) × (drew v x ≡ record v { ticket = Some x })). inl (c.0, ap (λ (z : SeatView). z.ended) c.1))
      (λ (c : (v.shape.knobs.playouts ≤ x) × (drew v x ≡ record v { ended = 1 })). inr (c.0, ap (λ (z : SeatView). z.ended) c.1))
      (drew_cases v x) in
      drawn u fits (shape-after v Draw x) (width-after v Draw x)
      (drew_same full_width v x refl refl) cases

  -- NEXT grows by the size of a block: it fits inside the area, or the view is full
  claimed : (u : SeatView) (size : ℕ) → FitsClaim v size → u.shape ≡ v.shape → u.width ≡ v.width
      → u.ended ≡ v.ended
      → ((next_in words + size ≤ end_of v.shape) × (u.full ≡ false)) ⊎ ((end_of v.shape < next_in words + size) × (u.full ≡ true))
      → Widths v.shape (words_after words (Claim size)) (set views id u)
  claimed u size fits s w e cases =
      let old : Widths v.shape words views = b.state.widths in
      let ended : sum_by ended_of (set views id u) ≡ sum_by ended_of views
      = omega (arith, total_set ended_of views id v u b.at, e) in
      let few : size ≤ 488 = few-words v size b.state.setting.position.most fits in
      let one = (b.state.in_hand id v b.at).one fits.number fits.ticket in
      let none : full_width v ≡ 0 = ap (λ (t : Bool). cond t v.width 0) fits.room in
      let full = total_set full_width views id v u b.at in
      let n : next_in (words_after words (Claim size)) ≡ next_in words + size
      = get_or-set_same words 0 (next_in words + size) 0 (omega (arith, b.state.long)) in
      let t : ticket_in (words_after words (Claim size)) ≡ ticket_in words
      = get_or-set_other words 0 1 (next_in words + size) 0 (λ q. omega (arith, q)) in
      let A : Type 0 = (next_in words + size ≤ end_of v.shape) × (u.full ≡ false) in
      let B : Type 0 = (end_of v.shape < next_in words + size) × (u.full ≡ true) in
      let no : A → full_width u ≡ 0 = λ c. ap (λ (t : Bool). cond t u.width 0) c.1 in
      let yes : B → full_width u ≡ u.width = λ c. ap (λ (t : Bool). cond t u.width 0) c.1 in
      record {
        each = width-set u s w (omega (arith, w, e, (old.each id v b.at).ended));
        sum = omega (arith, total_set width_of views id v u b.at, w, old.sum);
        ticket = omega (arith, t, ended, old.ticket);
        ended = λ h. omega (arith, t, old.ended (omega (arith, h, ended)));
        next = ⊎_elim (λ (c : A). let l = c.0 in omega (arith, n, l))
            (λ (c : B). omega (arith, n, yes c, none, full, few, old.next, w, one.0)) cases;
        full = λ h. ⊎_elim (λ (c : A). omega (arith, n, old.full (omega (arith, h, full, no c, none)))) (λ (c : B). let l = c.0 in omega (arith, n, l)) cases;
      }

  widths-claim : (size : ℕ) → FitsClaim v size → Widths v.shape (words_after words (Claim size))
      (views_after words views id v (Claim size))
  unfolding with_word
  widths-claim size fits =
      let x : ℕ = next_in words in
      let u : SeatView = after v (Claim size) x in
      let A : Type 0 = (x + size ≤ end_of v.shape) × (u.full ≡ false) in
      let B : Type 0 = (end_of v.shape < x + size) × (u.full ≡ true) in
      let cases : A ⊎ B = ⊎_elim
      (λ (c : (x + size ≤ end_of v.shape) × (claimed_at v size x
      ≡ record v { held = Some (record { start = x; size = size; written = [] }); claimed = v.claimed + size })).
      inl (c.0, ap (λ (z : SeatView). z.full) c.1 ∙ fits.room))
      (λ (c : (end_of v.shape < x + size) × (claimed_at v size x ≡ record v { full = true })). inr (c.0, ap (λ (z : SeatView). z.full) c.1))
      (claimed_cases v size x) in
      claimed u size fits (shape-after v (Claim size) x) (width-after v (Claim size) x)
      (claimed_same (λ z. z.ended) v size x refl refl) cases

  widths-note : (k value : ℕ) → FitsStep v (Note k value)
      → Widths v.shape (words_after words (Note k value))
      (views_after words views id v (Note k value))
  unfolding with_word noted
  widths-note k value fits
      = frame (after v (Note k value) 0) (words_after words (Note k value)) refl refl refl refl
      (get_or-set_other words (2 + k) 1 value 0 (λ e. omega (arith, e)))
      (get_or-set_other words (2 + k) 0 value 0 (λ e. omega (arith, e)))

  pub widths-step : (op : Op) → FitsStep v op
      → Widths v.shape (words_after words op) (views_after words views id v op)
  unfolding with_word looked wrote published added_at noted
  widths-step Draw fits = widths-draw fits
  widths-step (Look i) fits = high (Look i) tt fits refl refl
  widths-step (Claim size) fits = widths-claim size fits
  widths-step (Write i value) fits = high (Write i value) tt fits refl refl
  widths-step (Publish l c) fits = high (Publish l c) tt fits refl refl
  widths-step (Add i won) fits = high (Add i won) tt fits refl refl
  widths-step (Note k value) fits = widths-note k value fits
  widths-step Done fits = high Done tt fits refl refl
