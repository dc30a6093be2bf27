-- A step of a walker of a simulation.
use Rattle.std.proofs.Common.{◌≡◌, ◌≢◌, ℕ, suc, ◌+◌, ◌-◌, ◌*◌, ◌<◌, ◌≤◌, List, length, set, refl}
use Rattle.std.proofs.Common.{sym, ap, ◌∙◌, subst, ◌⊎◌, ⊎_elim, inl, inr, arith}
use Rattle.std.specs.Prelude.{slice_index, sum_by}
use mathlib.Core.Option.{some}
use lib.ListN.{get_elem?}
use Rattle.tree_words.specs.Settings.{Setting}
use Rattle.tree_words.specs.Words.{ticket_in}
use Rattle.tree_words.specs.declared.steps.Op.{Op}
use Rattle.tree_words.specs.declared.steps.Op.TheVariants.{Draw, Look, Claim, Write, Publish, Add}
use Rattle.tree_words.specs.declared.steps.Op.TheVariants.{Note, Done}
use Rattle.arena_rule.specs.Views.{SeatView}
use Rattle.arena_rule.specs.Fits.{FitsStep}
use Rattle.arena_rule.specs.Afters.{word_of, answer_of, after}
use Rattle.arena_rule.specs.Answers.{MayAnswer}
use Rattle.arena_rule.specs.Rule.{Rule, words_after, views_after}
use Rattle.arena_rule.specs.Parts.{ended_of, width_of}
use Rattle.arena_rule.proofs.Before.{Before}
use Rattle.arena_rule.proofs.Law.{steps, answers}
use Rattle.arena_rule.proofs.Totals.{total_set, total_le}
use Rattle.walker.specs.declared.machine.TheConstants.{WALK_STEPS}
use Rattle.walker.specs.declared.machine.Walker.{Walker}
use Rattle.walker.specs.Machine.{op_of, next}
use Rattle.walker.specs.Belongs.{Belongs, MayGet}
use Rattle.walker.specs.Measure.{steps_left}
use Rattle.walker.proofs.Fitting.{fits}
use Rattle.walker.proofs.Keeps.{keeps}
use Rattle.walker.proofs.Falling.{fewer, bound}
use Rattle.sim_run.specs.Plain.{FitsWord}
use Rattle.sim_run.specs.BetweenSteps.{AreSimulated}
use Rattle.sim_run.proofs.Zips.{zip-at, zip-set}
use Rattle.sim_run.proofs.Frames.{before, within, fits-word, ticket-drawn, ticket-stays}

-- TICKET is at most the sum of N and K
pub ticket-most : (s : Setting) (words : List ℕ) (views : List SeatView) → Rule s words views
    → ticket_in words ≤ s.knobs.playouts + s.knobs.workers
ticket-most s words views r =
    let w = r.state.widths in
    omega (arith, w.ticket, w.sum, total_le ended_of width_of views (λ i v e. (w.each i v e).ended))

-- a step is a Draw or not
draw-or : (o : Op) → (o ≡ Draw) ⊎ (o ≢ Draw)
draw-or Draw = inl refl
draw-or (Look i) = inr (λ e. cc)
draw-or (Claim size) = inr (λ e. cc)
draw-or (Write i value) = inr (λ e. cc)
draw-or (Publish l b) = inr (λ e. cc)
draw-or (Add i won) = inr (λ e. cc)
draw-or (Note k value) = inr (λ e. cc)
draw-or Done = inr (λ e. cc)

module _ (s : Setting) (words : List ℕ) (walkers : List Walker) (u : AreSimulated s words walkers)
    (id : ℕ) (w : Walker) (at : get_elem? walkers id ≡ some w) where
  abbrev pub op : Op
  op = op_of w

  abbrev pub found : ℕ
  found = answer_of op (slice_index words (word_of op))

  abbrev pub here : (v : SeatView) × (get_elem? u.views id ≡ some v) × Belongs w v
  here = zip-at Belongs walkers u.views u.belong id w at

  abbrev pub v : SeatView
  v = here.0

  own : Belongs w v
  own = here.2

  live : 0 < v.width
  live = omega (arith, own.width)

  b : Before u.rule.blocks words u.views id v
  b = before s words u.views u.rule id v here.1 live

  fit : FitsStep v op
  fit = fits w v own

  may : MayAnswer v op found
  may = answers s words u.views u.rule id v here.1 live op fit

  pub word-within : word_of op < length words
  word-within = within u.rule.blocks words u.views id v b op fit

  pub word-room : FitsWord op (slice_index words (word_of op))
  word-room = fits-word u.rule.blocks words u.views id v b op fit may

  pub may-get : MayGet w found
  may-get = (v, own, may)

  rule : Rule s (words_after words op) (views_after words u.views id v op)
  rule = steps s words u.views u.rule id v here.1 live op fit

  -- it leaves a simulation
  pub stepped : AreSimulated s (words_after words op) (set walkers id (next w found))
  stepped = record {
    views = views_after words u.views id v op;
    rule = rule;
    belong = zip-set Belongs walkers u.views u.belong id w (next w found) v
        (after v op found) at here.1 (λ h. keeps w v h found may);
  }

  -- and less to do
  left : sum_by steps_left
      (set walkers id (next w found)) + steps_left w ≡ sum_by steps_left walkers + steps_left
      (next w found)
  left = total_set steps_left walkers id w (next w found) at

  pub step-falls : op ≢ Done
      → (1 + WALK_STEPS) * (s.knobs.playouts + s.knobs.workers - ticket_in (words_after words op)) + sum_by steps_left (set walkers id (next w found))
      < (1 + WALK_STEPS) * (s.knobs.playouts + s.knobs.workers - ticket_in words) + sum_by steps_left walkers
  step-falls more = ⊎_elim
      (λ (e : op ≡ Draw).
      let t : ticket_in (words_after words op) ≡ ticket_in words + 1
      = ap (λ (o : Op). ticket_in (words_after words o)) e
      ∙ ticket-drawn u.rule.blocks words u.views id v b in
      let most = ticket-most s (words_after words op) (views_after words u.views id v op) rule in
      let d : s.knobs.playouts + s.knobs.workers - ticket_in words ≡ s.knobs.playouts + s.knobs.workers - ticket_in (words_after words op) + 1
      = omega (arith, t, most) in
      omega (arith, d, left, bound w v own found e))
      (λ (ne : op ≢ Draw).
      let d : s.knobs.playouts + s.knobs.workers - ticket_in
      (words_after words op) ≡ s.knobs.playouts + s.knobs.workers - ticket_in words
      = ap (λ (t : ℕ). s.knobs.playouts + s.knobs.workers - t)
      (ticket-stays u.rule.blocks words u.views id v b op fit ne) in
      omega (arith, d, left, fewer w v own found may ne more))
      (draw-or op)

  -- the same of equal steps, words and answers, as a call names them
  module _ (o : Op) (is : o ≡ op) (ws : List ℕ) (same : ws ≡ words) where
    pub can-apply : (word_of o < length ws) × FitsWord o (slice_index ws (word_of o))
    can-apply = subst (λ (p : Op). (word_of p < length ws) × FitsWord p (slice_index ws (word_of p))) (sym is)
        (subst (λ (l : List ℕ). (word_of op < length l) × FitsWord op (slice_index l (word_of op))) (sym same) (word-within, word-room))

    module _ (x : ℕ) (gives : x ≡ answer_of o (slice_index ws (word_of o))) where
      pub is-found : x ≡ found
      is-found = gives ∙ (λ i. answer_of (is i) (slice_index (same i) (word_of (is i))))

      pub may-take : MayGet w x
      may-take = subst (MayGet w) (sym is-found) may-get

      module _ (now : List ℕ) (put : now ≡ words_after ws o) (later : List Walker)
          (got : later ≡ set walkers id (next w x)) where
        now-is : now ≡ words_after words op
        now-is = put ∙ (λ i. words_after (same i) (is i))

        later-is : later ≡ set walkers id (next w found)
        later-is = got ∙ ap (λ (y : ℕ). set walkers id (next w y)) is-found

        pub goes-on : AreSimulated s now later
        goes-on = subst (λ (l : List ℕ). AreSimulated s l later) (sym now-is)
            (subst (AreSimulated s (words_after words op)) (sym later-is) stepped)

        pub goes-down : o ≢ Done
            → (1 + WALK_STEPS) * (s.knobs.playouts + s.knobs.workers - ticket_in now) + sum_by steps_left later
            < (1 + WALK_STEPS) * (s.knobs.playouts + s.knobs.workers - ticket_in words) + sum_by steps_left walkers
        goes-down more =
            let f = step-falls (λ e. more (is ∙ e)) in
            omega (arith, f, ap ticket_in now-is, ap (sum_by steps_left) later-is)
