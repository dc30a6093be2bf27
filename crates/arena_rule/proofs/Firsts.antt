-- The views with which a search begins: the opening view, or K views of width 1.
use Rattle.std.proofs.Common.{◌≡◌, ℕ, zero, suc, ◌<◌, false, [], ◌∷◌, None, refl, sym, ap, ◌∙◌}
use Rattle.std.proofs.Common.{subst, arith}
use Rattle.std.specs.Prelude.{sum_by, replicate}
use Rattle.std.proofs.lemmas.List.Sums.{sum_by-cons}
use mathlib.Core.Option.{some, some-injective, some-ne-none}
use lib.ListN.{get_elem?}
use Rattle.tree_words.specs.Settings.{Setting, IsSetting}
use Rattle.arena_rule.specs.Views.{SeatView, HasDrawnNothing, new_view, opening_view}
use Rattle.arena_rule.specs.Parts.{width_of}
use Rattle.arena_rule.proofs.Options.{none-some, some-eq}
use Rattle.arena_rule.proofs.Before.{AreFirst}

-- a view with nothing drawn, known or loaded
abbrev IsNew : Setting → SeatView → Type 0
IsNew s v = (v.shape ≡ s) × HasDrawnNothing v × (v.known ≡ []) × (v.loads ≡ []) × (0 < v.width)

nothing : {v : SeatView} → v.ticket ≡ None → v.adds ≡ None → v.held ≡ None → v.ended ≡ 0
    → v.walks ≡ [] → v.full ≡ false → v.claimed ≡ 0 → HasDrawnNothing v
nothing a b c d e f g
    = record { ticket = a; adds = b; held = c; ended = d; walks = e; full = f; claimed = g }

in-one : {A : Type 0} (x : A) (i : ℕ) (v : A) → get_elem? (x ∷ []) i ≡ some v → (i ≡ 0) × (x ≡ v)
in-one x zero v e = (refl, some-injective x v e)
in-one x (suc i) v e = absurd (some-ne-none v (sym e))

in-many : {A : Type 0} (n : ℕ) (x : A) (i : ℕ) (v : A)
    → get_elem? (replicate n x) i ≡ some v → x ≡ v
in-many zero x i v e = absurd (some-ne-none v (sym e))
in-many (suc n) x zero v e = some-injective x v e
in-many (suc n) x (suc i) v e = in-many n x i v e

widths-many : (s : Setting) (n : ℕ) → sum_by width_of (replicate n (new_view s 1 [])) ≡ n
widths-many s zero = refl
widths-many s (suc n)
    = omega (arith, sum_by-cons width_of (new_view s 1 []) (replicate n (new_view s 1 [])), widths-many s n)

-- the opening view has drawn nothing
pub opening-nothing : (s : Setting) → HasDrawnNothing (opening_view s)
opening-nothing s = nothing refl refl refl refl refl refl refl

pub opening-first : (s : Setting) → IsSetting s → AreFirst s (opening_view s ∷ [])
opening-first s h = record {
  each = λ i v e. subst (IsNew s) (in-one (opening_view s) i v e).1
      (refl, nothing refl refl refl refl refl refl refl, refl, refl, omega (arith, h.ranges.workers.0));
  sum = omega arith;
  sole = λ i v copy e w. let at = in-one (opening_view s) i v e in
      (some-eq (ap (λ (z : SeatView). z.whole) at.1 ∙ w), λ j other d ne. absurd (ne ((in-one (opening_view s) j other d).0 ∙ sym at.0)));
}

pub ones-first : (s : Setting) → IsSetting s
    → AreFirst s (replicate s.knobs.workers (new_view s 1 []))
ones-first s h = record {
  each = λ i v e. subst (IsNew s) (in-many s.knobs.workers (new_view s 1 []) i v e)
      (refl, nothing refl refl refl refl refl refl refl, refl, refl, omega arith);
  sum = widths-many s s.knobs.workers;
  sole = λ i v copy e w. absurd
      (none-some (ap (λ (z : SeatView). z.whole) (in-many s.knobs.workers (new_view s 1 []) i v e) ∙ w));
}
