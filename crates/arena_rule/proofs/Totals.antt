-- Sums over a list that is read by `get_elem?`, and what holds of each of its elements.
use Rattle.std.proofs.Common.{◌≡◌, ◌≢◌, ℕ, zero, suc, ◌+◌, ◌≤◌, ◌<◌, List, [], ◌∷◌, ◌++◌, length}
use Rattle.std.proofs.Common.{set, refl, sym, ap, subst, ⊎_elim, arith}
use mathlib.Core.Option.{some, some-injective, some-ne-none}
use lib.ListN.{get_elem?}
use Rattle.std.specs.Prelude.{sum_by}
use Rattle.std.proofs.lemmas.List.Sums.{sum_by-cons, sum_by_push}
use Rattle.atomic_table.proofs.Lists.{at_set, at_snoc}
use Rattle.arena_rule.specs.Views.{SeatView}
use Rattle.arena_rule.specs.Parts.{Each}

module _ {A : Type 0} where
  -- one element changes
  pub total_set : (f : A → ℕ) (l : List A) (i : ℕ) (v w : A) → get_elem? l i ≡ some v
      → sum_by f (set l i w) + f v ≡ sum_by f l + f w
  total_set f [] i v w e = absurd (some-ne-none v (sym e))
  total_set f (x ∷ xs) zero v w e
      = omega (arith, sum_by-cons f w xs, sum_by-cons f x xs, ap f (some-injective x v e))
  total_set f (x ∷ xs) (suc i) v w e
      = omega (arith, sum_by-cons f x (set xs i w), sum_by-cons f x xs, total_set f xs i v w e)

  -- one summand is at most the sum
  pub total_at : (f : A → ℕ) (l : List A) (i : ℕ) (v : A) → get_elem? l i ≡ some v
      → f v ≤ sum_by f l
  total_at f [] i v e = absurd (some-ne-none v (sym e))
  total_at f (x ∷ xs) zero v e = omega (arith, sum_by-cons f x xs, ap f (some-injective x v e))
  total_at f (x ∷ xs) (suc i) v e = omega (arith, sum_by-cons f x xs, total_at f xs i v e)

  -- and so are two of them together
  pub total_two : (f : A → ℕ) (l : List A) (i j : ℕ) (v w : A) → i ≢ j → get_elem? l i ≡ some v
      → get_elem? l j ≡ some w → f v + f w ≤ sum_by f l
  total_two f [] i j v w ne e d = absurd (some-ne-none v (sym e))
  total_two f (x ∷ xs) zero zero v w ne e d = absurd (ne refl)
  total_two f (x ∷ xs) zero (suc j) v w ne e d
      = omega (arith, sum_by-cons f x xs, ap f (some-injective x v e), total_at f xs j w d)
  total_two f (x ∷ xs) (suc i) zero v w ne e d
      = omega (arith, sum_by-cons f x xs, ap f (some-injective x w d), total_at f xs i v e)
  total_two f (x ∷ xs) (suc i) (suc j) v w ne e d
      = omega (arith, sum_by-cons f x xs, total_two f xs i j v w (λ q. ne (ap suc q)) e d)

  pub total_le : (f g : A → ℕ) (l : List A) → ((i : ℕ) (v : A) → get_elem? l i ≡ some v → f v ≤ g v)
      → sum_by f l ≤ sum_by g l
  total_le f g [] h = omega arith
  total_le f g (x ∷ xs) h
      = omega (arith, sum_by-cons f x xs, sum_by-cons g x xs, h 0 x refl, total_le f g xs (λ i v. h (suc i) v))

  -- two functions that agree on the elements have one sum
  pub total_same : (f g : A → ℕ) (l : List A)
      → ((i : ℕ) (v : A) → get_elem? l i ≡ some v → f v ≡ g v) → sum_by f l ≡ sum_by g l
  total_same f g [] h = refl
  total_same f g (x ∷ xs) h
      = omega (arith, sum_by-cons f x xs, sum_by-cons g x xs, h 0 x refl, total_same f g xs (λ i v. h (suc i) v))

  pub total_add : (f g : A → ℕ) (l : List A) → sum_by (λ v. f v + g v) l ≡ sum_by f l + sum_by g l
  total_add f g [] = refl
  total_add f g (x ∷ xs)
      = omega (arith, sum_by-cons (λ v. f v + g v) x xs, sum_by-cons f x xs, sum_by-cons g x xs, total_add f g xs)

  pub total_none : (f : A → ℕ) (l : List A) → ((i : ℕ) (v : A) → get_elem? l i ≡ some v → f v ≡ 0)
      → sum_by f l ≡ 0
  total_none f [] h = refl
  total_none f (x ∷ xs) h
      = omega (arith, sum_by-cons f x xs, h 0 x refl, total_none f xs (λ i v. h (suc i) v))

  -- an element is cut in two
  pub total_split : (f : A → ℕ) (l : List A) (i : ℕ) (v a b : A) → get_elem? l i ≡ some v
      → sum_by f (set l i a ++ b ∷ []) + f v ≡ sum_by f l + f a + f b
  total_split f l i v a b e = omega (arith, sum_by_push f (set l i a) b, total_set f l i v a e)

  -- two elements change
  pub total_join : (f : A → ℕ) (l : List A) (i j : ℕ) (v w a b : A) → j ≢ i → get_elem? l i ≡ some v
      → get_elem? l j ≡ some w
      → sum_by f (set (set l i a) j b) + f v + f w ≡ sum_by f l + f a + f b
  total_join f l i j v w a b ne e d
      = omega (arith, total_set f l i v a e, total_set f (set l i a) j w b (other l i j a w ne d))
    where
      other : (l : List A) (i j : ℕ) (a w : A) → j ≢ i → get_elem? l j ≡ some w
          → get_elem? (set l i a) j ≡ some w
      other [] i j a w ne d = d
      other (x ∷ xs) zero zero a w ne d = absurd (ne refl)
      other (x ∷ xs) zero (suc j) a w ne d = d
      other (x ∷ xs) (suc i) zero a w ne d = d
      other (x ∷ xs) (suc i) (suc j) a w ne d = other xs i j a w (λ q. ne (ap suc q)) d

  pub inside : (l : List A) (i : ℕ) (v : A) → get_elem? l i ≡ some v → i < length l
  inside [] i v e = absurd (some-ne-none v (sym e))
  inside (x ∷ xs) zero v e = omega arith
  inside (x ∷ xs) (suc i) v e = omega (arith, inside xs i v e)

-- what holds of each view if one changes
pub each-set : (P : SeatView → Type 0) (views : List SeatView) (id : ℕ) (u : SeatView)
    → ((j : ℕ) (v : SeatView) → j ≢ id → get_elem? views j ≡ some v → P v) → P u
    → Each P (set views id u)
each-set P views id u others mine j v e = ⊎_elim
    (λ (t : (j ≡ id) × (u ≡ v)). subst P t.1 mine)
    (λ (t : (j ≢ id) × (get_elem? views j ≡ some v)). others j v t.0 t.1)
    (at_set views id j u v e)

-- if one is cut in two
pub each-split : (P : SeatView → Type 0) (views : List SeatView) (id : ℕ) (a b : SeatView)
    → ((j : ℕ) (v : SeatView) → j ≢ id → get_elem? views j ≡ some v → P v) → P a → P b
    → Each P (set views id a ++ b ∷ [])
each-split P views id a b others left right j v e = ⊎_elim
    (λ (t : get_elem? (set views id a) j ≡ some v). each-set P views id a others left j v t)
    (λ (t : b ≡ v). subst P t right)
    (at_snoc (set views id a) b v j e)

-- if two change
pub each-join : (P : SeatView → Type 0) (views : List SeatView) (id other : ℕ) (a b : SeatView)
    → ((j : ℕ) (v : SeatView) → get_elem? views j ≡ some v → P v) → P a → P b
    → Each P (set (set views id a) other b)
each-join P views id other a b others left right
    = each-set P (set views id a) other b
    (λ j v _ e. each-set P views id a (λ i w _ d. others i w d) left j v e) right
