-- A simulation at its beginning: the rule holds of the opening words with a view of width 1 for
-- each worker.
use Rattle.std.proofs.Common.{◌≡◌, ◌≢◌, ℕ, List, [], replicate, refl, sym, subst, inr, arith}
use Rattle.std.specs.List.{AllZip}
use mathlib.Core.Option.{some}
use mathlib.Core.Logic.{dite}
use native.Mathlib.Decide.{ℕ_discrete}
use lib.ListN.{get_elem?}
use Rattle.tree_words.specs.Settings.{Setting, IsSetting}
use Rattle.tree_words.specs.Opening.{opening_words}
use Rattle.arena_rule.specs.Views.{SeatView, HasDrawnNothing, new_view, opening_view}
use Rattle.arena_rule.specs.IsView.{IsView}
use Rattle.arena_rule.specs.Rule.{Rule}
use Rattle.arena_rule.proofs.Firsts.{opening-nothing}
use Rattle.arena_rule.proofs.Law.{begins, begins-apart}
use Rattle.arena_rule.proofs.Options.{none-some, false-true}
use Rattle.arena_rule.proofs.ViewSeats.{given-stays}
use Rattle.walker.specs.declared.machine.Walker.{Walker}
use Rattle.walker.specs.Belongs.{Belongs}
use Rattle.sim_run.specs.BetweenSteps.{IsNew, AreNew, AreSimulated}
use Rattle.sim_run.proofs.Zips.{all-at, zip-same}

module _ (s : Setting) (h : IsSetting s) (walkers : List Walker) (new : AreNew s walkers) where
  -- the opening view is in order
  order : IsView (opening_view s)
  order = record {
    setting = h;
    width = h.ranges.workers.0;
    known = tt;
    order = inr tt;
    ticket = λ k e. absurd (none-some e);
    held = λ b e. absurd (none-some e);
    apart = λ i e. absurd (false-true e);
    leaf = λ f e. absurd (none-some e);
  }

  -- a view for each walker
  many : (P : Walker → SeatView → Type 0) (v : SeatView)
      → ((i : ℕ) (w : Walker) → get_elem? walkers i ≡ some w → P w v)
      → AllZip P walkers (replicate s.knobs.workers v)
  many P v each = subst (λ (n : ℕ). AllZip P walkers (replicate n v)) new.count
      (zip-same P walkers v each)

  -- the one walker has the opening view
  sole : s.knobs.workers ≡ 1 → AreSimulated s (opening_words s) walkers
  sole one =
      let v : SeatView = opening_view s in
      let own : (i : ℕ) (w : Walker) → get_elem? walkers i ≡ some w → Belongs w v
      = λ i w e. all-at (IsNew s) walkers new.each i w e v refl one (opening-nothing s) order in
      record {
        views = replicate s.knobs.workers v;
        rule = subst (λ (n : ℕ). Rule s (opening_words s) (replicate n v)) (sym one) (begins s h);
        belong = many Belongs v own;
      }

  -- each of several has a view split from it
  several : s.knobs.workers ≢ 1 → AreSimulated s (opening_words s) walkers
  several ne =
      let v : SeatView = new_view s 1 [] in
      let least = h.ranges.workers.0 in
      let given : IsView v
      = given-stays (opening_view s) order 1
      (record { nothing = opening-nothing s; given = omega arith; kept = omega (arith, least, ne) }) in
      let empty : HasDrawnNothing v
      = record { ticket = refl; adds = refl; held = refl; ended = refl; walks = refl; full = refl; claimed = refl } in
      record {
        views = replicate s.knobs.workers v;
        rule = begins-apart s h;
        belong = many Belongs v
            (λ i w e. all-at (IsNew s) walkers new.each i w e v refl refl empty given);
      }

  pub begins-simulated : AreSimulated s (opening_words s) walkers
  begins-simulated = dite (ℕ_discrete s.knobs.workers 1) sole several
