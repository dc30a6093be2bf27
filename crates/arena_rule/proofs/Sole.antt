-- Each step keeps Sole.
use Rattle.std.proofs.Common.{◌≡◌, ◌≢◌, ℕ, List, set, Option, Some, None, refl, sym, ap, ◌∙◌}
use Rattle.std.proofs.Common.{⊎_elim, arith}
use Rattle.std.specs.Prelude.{option_map, slice_index}
use mathlib.Core.Option.{some}
use lib.ListN.{get_elem?}
use Rattle.atomic_table.proofs.Lists.{at_set, at_snoc, set_else}
use Rattle.tree_words.specs.Settings.{Setting, IsSetting}
use Rattle.tree_words.specs.Blocks.{LinkedBlock}
use Rattle.tree_words.specs.Opening.{opening_words}
use Rattle.tree_words.specs.declared.steps.Op.{Op}
use Rattle.arena_rule.specs.Views.{SeatView, spent_view}
use Rattle.arena_rule.specs.Fits.{FitsStep, CanSplit}
use Rattle.arena_rule.specs.Afters.{word_of, put, answer_of, after, kept_part, given_part, joined}
use Rattle.arena_rule.specs.Parts.{Sole}
use Rattle.arena_rule.specs.Rule.{words_after, views_after, views_split, views_joined}
use Rattle.arena_rule.proofs.Options.{none-some, some-eq}
use Rattle.arena_rule.proofs.Before.{Before, Other, AreFirst}
use Rattle.arena_rule.proofs.Changes.{whole-after, put-answered}

module _ (bs : List LinkedBlock) (words : List ℕ) (views : List SeatView) (id : ℕ) (v : SeatView)
    (b : Before bs words views id v) where
  -- only the seat that steps can have a copy of the words
  mine : (i : ℕ) (u : SeatView) (copy : List ℕ) → i ≢ id → get_elem? views i ≡ some u
      → u.whole ≡ Some copy → ⊥
  mine i u copy ne e w = let zero : v.width ≡ 0 = (b.state.sole i u copy e w).1 id v b.at
      (λ q. ne (sym q)) in omega (arith, zero, b.live)

  -- the seat's copy gets the new value of the word
  kept : (u : SeatView) (i w n : ℕ) (copy : List ℕ) (o : Option (List ℕ)) → v.whole ≡ o
      → option_map (λ ws. set ws w n) o ≡ Some copy → i ≡ id
      → (set words w n ≡ copy)
      × ((j : ℕ) (other : SeatView) → get_elem? (set views id u) j ≡ some other → j ≢ i → other.width ≡ 0)
  kept u i w n copy None q m here = absurd (none-some m)
  kept u i w n copy (Some old) q m here =
      let was = b.state.sole id v old b.at q in (
        ap (λ (ws : List ℕ). set ws w n) was.0 ∙ some-eq m,
        λ j other f ne. was.1 j other (sym (set_else views id j u (λ z. ne (z ∙ sym here))) ∙ f)
            (λ z. ne (z ∙ sym here)),
      )

  pub sole-step : (op : Op) → FitsStep v op
      → Sole (words_after words op) (views_after words views id v op)
  sole-step op fits i u copy e w =
      let x : ℕ = slice_index words (word_of op) in
      let next : SeatView = after v op (answer_of op x) in
      ⊎_elim
      (λ (t : (i ≡ id) × (next ≡ u)).
      kept next i (word_of op) (put op x) copy v.whole refl
      (ap (λ (n : ℕ). option_map (λ ws. set ws (word_of op) n) v.whole) (sym (put-answered op x))
      ∙ (sym (whole-after v op (answer_of op x)) ∙ (ap (λ (z : SeatView). z.whole) t.1 ∙ w)))
      t.0)
      (λ (t : (i ≢ id) × (get_elem? views i ≡ some u)). absurd (mine i u copy t.0 t.1 w))
      (at_set views id i next u e)

  pub sole-split : (part : ℕ) → CanSplit v part → Sole words (views_split views id v part)
  unfolding kept_part
  sole-split part can i u copy e w = ⊎_elim
      (λ (t : get_elem? (set views id (kept_part v part)) i ≡ some u). ⊎_elim
      (λ (q : (i ≡ id) × (kept_part v part ≡ u)). absurd (none-some (ap (λ (z : SeatView). z.whole) q.1 ∙ w)))
      (λ (q : (i ≢ id) × (get_elem? views i ≡ some u)). absurd (mine i u copy q.0 q.1 w))
      (at_set views id i (kept_part v part) u t))
      (λ (t : given_part v part ≡ u). absurd (none-some (ap (λ (z : SeatView). z.whole) t ∙ w)))
      (at_snoc (set views id (kept_part v part)) (given_part v part) u i e)

  pub sole-join : (other : ℕ) (w : SeatView) → Other views id v other w
      → Sole words (views_joined views id v other w)
  unfolding joined
  sole-join other w o i u copy e m = ⊎_elim
      (λ (t : (i ≡ other) × (spent_view v.shape ≡ u)). absurd (none-some (ap (λ (z : SeatView). z.whole) t.1 ∙ m)))
      (λ (t : (i ≢ other) × (get_elem? (set views id (joined v w)) i ≡ some u)). ⊎_elim
      (λ (q : (i ≡ id) × (joined v w ≡ u)). absurd (none-some (ap (λ (z : SeatView). z.whole) q.1 ∙ m)))
      (λ (q : (i ≢ id) × (get_elem? views i ≡ some u)). absurd (mine i u copy q.0 q.1 m))
      (at_set views id i (joined v w) u t.1))
      (at_set (set views id (joined v w)) other i (spent_view v.shape) u e)

pub sole-first : (s : Setting) (views : List SeatView) → IsSetting s → AreFirst s views
    → Sole (opening_words s) views
sole-first s views setting first = first.sole
