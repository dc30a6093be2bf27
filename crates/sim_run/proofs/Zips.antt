-- Two lists that agree place by place.
use Rattle.std.proofs.Common.{◌≡◌, ℕ, zero, suc, ◌<◌, List, [], ◌∷◌, ◌++◌, length, set, get_or}
use Rattle.std.proofs.Common.{refl, sym, ap, subst, replicate, arith}
use Rattle.std.specs.List.{All, AllZip}
use mathlib.Core.Option.{some, some-injective, some-ne-none}
use lib.ListN.{get_elem?}
use Rattle.arena_rule.proofs.Totals.{inside}

module _ {A B : Type 0} (R : A → B → Type 0) where
  pub zip-at : (xs : List A) (ys : List B) → AllZip R xs ys → (i : ℕ) (x : A)
      → get_elem? xs i ≡ some x → (y : B) × (get_elem? ys i ≡ some y) × R x y
  zip-at [] [] z i x e = absurd (some-ne-none x (sym e))
  zip-at [] (y ∷ ys) z i x e = absurd z
  zip-at (x ∷ xs) [] z i w e = absurd z
  zip-at (x ∷ xs) (y ∷ ys) z zero w e
      = (y, refl, subst (λ (u : A). R u y) (some-injective x w e) z.0)
  zip-at (x ∷ xs) (y ∷ ys) z (suc i) w e = zip-at xs ys z.1 i w e

  -- one element changes in each
  pub zip-set : (xs : List A) (ys : List B) → AllZip R xs ys → (i : ℕ) (x a : A) (y b : B)
      → get_elem? xs i ≡ some x → get_elem? ys i ≡ some y → (R x y → R a b)
      → AllZip R (set xs i a) (set ys i b)
  zip-set [] [] z i x a y b e d h = absurd (some-ne-none x (sym e))
  zip-set [] (v ∷ ys) z i x a y b e d h = absurd z
  zip-set (w ∷ xs) [] z i x a y b e d h = absurd z
  zip-set (w ∷ xs) (v ∷ ys) z zero x a y b e d h
      = (h (subst (λ (u : A). R u y) (some-injective w x e) (subst (λ (u : B). R w u) (some-injective v y d) z.0)), z.1)
  zip-set (w ∷ xs) (v ∷ ys) z (suc i) x a y b e d h = (z.0, zip-set xs ys z.1 i x a y b e d h)

  -- each element with one and the same
  pub zip-same : (xs : List A) (y : B) → ((i : ℕ) (x : A) → get_elem? xs i ≡ some x → R x y)
      → AllZip R xs (replicate (length xs) y)
  zip-same [] y h = tt
  zip-same (x ∷ xs) y h = (h 0 x refl, zip-same xs y (λ i. h (suc i)))

module _ {A : Type 0} where
  -- the element of an index inside the list stands there
  pub at-index : (l : List A) (i : ℕ) (a : A) → i < length l → a ≡ get_or l i a
      → get_elem? l i ≡ some a
  at-index [] i a h e = absurd (omega arith)
  at-index (x ∷ xs) zero a h e = ap some (sym e)
  at-index (x ∷ xs) (suc i) a h e = at-index xs i a (omega arith) e

  pub at-or : (l : List A) (i : ℕ) (a d : A) → get_elem? l i ≡ some a → get_or l i d ≡ a
  at-or [] i a d e = absurd (some-ne-none a (sym e))
  at-or (x ∷ xs) zero a d e = some-injective x a e
  at-or (x ∷ xs) (suc i) a d e = at-or xs i a d e

  pub all-at : (P : A → Type 0) (l : List A) → All P l → (i : ℕ) (a : A)
      → get_elem? l i ≡ some a → P a
  all-at P l all i a e = subst P (at-or l i a a e) (all i a (inside l i a e))

  -- the element behind the first ones
  pub at-middle : (l : List A) (x : A) (m : List A) → get_elem? (l ++ x ∷ m) (length l) ≡ some x
  at-middle [] x m = refl
  at-middle (y ∷ l) x m = at-middle l x m

  pub set-middle : (l : List A) (x y : A) (m : List A) → set (l ++ x ∷ m) (length l) y ≡ l ++ y ∷ m
  set-middle [] x y m = refl
  set-middle (z ∷ l) x y m = ap (λ (r : List A). z ∷ r) (set-middle l x y m)
