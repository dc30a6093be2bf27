-- The end of a simulation: the views of walkers that are done are joined to one, which closes the
-- tree.
use Rattle.std.proofs.Common.{◌≡◌, ℕ, suc, ◌+◌, ◌<◌, List, [], ◌∷◌, ◌++◌, length, set, refl, sym}
use Rattle.std.proofs.Common.{ap, ◌∙◌, subst, append_assoc, append-nil, arith}
use Rattle.std.specs.Prelude.{sum_by}
use Rattle.std.specs.List.{AllZip}
use Rattle.std.proofs.lemmas.List.Sums.{sum_by-cons, sum_by_push}
use mathlib.Core.Option.{some}
use lib.ListN.{get_elem?}
use Rattle.tree_words.specs.Settings.{Setting}
use Rattle.tree_words.specs.Closing.{IsClosed}
use Rattle.arena_rule.specs.Views.{SeatView, HasEnded, spent_view}
use Rattle.arena_rule.specs.Fits.{FitsStep}
use Rattle.arena_rule.specs.Afters.{joined}
use Rattle.arena_rule.specs.Parts.{width_of}
use Rattle.arena_rule.specs.Rule.{Rule}
use Rattle.arena_rule.proofs.Law.{joins, closes}
use Rattle.walker.specs.declared.machine.Walker.{Walker}
use Rattle.walker.specs.Belongs.{Belongs}
use Rattle.walker.proofs.Fitting.{fits}
use Rattle.sim_run.specs.Steps.{IsFinished}
use Rattle.sim_run.specs.BetweenSteps.{AreSimulated, AreFinished}
use Rattle.sim_run.proofs.Zips.{all-at, at-middle, set-middle}

-- the view stands for a worker, and its workers have ended
record IsOver (v : SeatView) : Type 0 where
  pub live : 0 < v.width
  pub ended : HasEnded v

AreOver : List SeatView → Type 0
AreOver [] = Unit {0}
AreOver (v ∷ views) = IsOver v × AreOver views

join-over : (v w : SeatView) → IsOver v → IsOver w → IsOver (joined v w)
unfolding joined
join-over v w a b =
    let l = a.live in
    record { live = omega (arith, l); ended = λ i. a.ended i + b.ended i }

module _ (s : Setting) (words : List ℕ) where
  -- one seat after the other is joined with the first, and leaves a spent view
  all-joined : (v : SeatView) (spent rest : List SeatView) → Rule s words (v ∷ spent ++ rest)
      → IsOver v → AreOver rest → sum_by width_of spent ≡ 0 → IsClosed s words
  unfolding AreOver
  all-joined v spent [] r over rest none =
      let views : List SeatView = v ∷ spent ++ [] in
      let sum : sum_by width_of (spent ++ []) ≡ 0
      = ap (sum_by width_of) (append-nil spent) ∙ none in
      let l = over.live in
      closes s words views r 0 v (record {
        seat = record { at = refl; live = l };
        width = omega (arith, r.state.widths.sum, sum_by-cons width_of v (spent ++ []), sum);
        ended = over.ended;
      })
  all-joined v spent (w ∷ rest) r over left none =
      let z : SeatView = spent_view v.shape in
      let views : List SeatView = v ∷ spent ++ w ∷ rest in
      let both : Rule s words (joined v w ∷ set (spent ++ w ∷ rest) (length spent) z)
      = joins s words views r 0 v refl over.live (suc (length spent)) w (at-middle spent w rest)
      (λ e. omega (arith, e)) left.0.live (record { left = over.ended; right = left.0.ended }) in
      let same : set (spent ++ w ∷ rest) (length spent) z ≡ (spent ++ z ∷ []) ++ rest
      = set-middle spent w z rest ∙ sym (append_assoc spent (z ∷ []) rest) in
      all-joined (joined v w) (spent ++ z ∷ []) rest
      (subst (λ (l : List SeatView). Rule s words (joined v w ∷ l)) same both)
      (join-over v w over left.0) left.1
      (omega (arith, none, sum_by_push width_of spent z))

  -- the views of walkers that are done are over
  are-over : (walkers : List Walker) (views : List SeatView) → AllZip Belongs walkers views
      → ((i : ℕ) (w : Walker) → get_elem? walkers i ≡ some w → IsFinished w) → AreOver views
  unfolding AreOver
  are-over [] [] z done = tt
  are-over [] (v ∷ views) z done = absurd z
  are-over (w ∷ walkers) [] z done = absurd z
  are-over (w ∷ walkers) (v ∷ views) z done =
      let one = z.0.width in
      (record { live = omega (arith, one); ended = subst (FitsStep v) (done 0 w refl) (fits w v z.0) }, are-over walkers views z.1 (λ i. done (suc i)))

  -- some worker is there
  end-closes : (views : List SeatView) → Rule s words views → AreOver views → IsClosed s words
  unfolding AreOver
  end-closes [] r over
      = absurd (omega (arith, r.state.widths.sum, r.state.setting.ranges.workers.0))
  end-closes (v ∷ views) r over = all-joined v [] views r over.0 over.1 refl

  module _ (walkers : List Walker) (u : AreSimulated s words walkers)
      (done : AreFinished walkers) where
    pub ends-closed : IsClosed s words
    ends-closed = end-closes u.views u.rule
        (are-over walkers u.views u.belong (all-at IsFinished walkers done))
