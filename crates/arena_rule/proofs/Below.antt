-- Sums over the numbers below n.
use Rattle.std.proofs.Common.{◌≡◌, ◌≢◌, ℕ, zero, suc, ◌+◌, ◌≤◌, ◌<◌, Bool, true, false, cond, List}
use Rattle.std.proofs.Common.{[], ◌∷◌, refl, ap, ⊎_elim, arith}
use Rattle.std.specs.Prelude.{◌==◌, sum_by}
use Rattle.std.proofs.lemmas.List.Sums.{sum_by-cons}
use Rattle.std.proofs.lemmas.Bool.Decides.{nat_tests}
use Rattle.std.proofs.lemmas.Bool.{eqb-true, ne_eqb, cases_Bool}

abbrev pub sum_below : ℕ → (ℕ → ℕ) → ℕ
sum_below zero f = 0
sum_below (suc n) f = sum_below n f + f n

pub below_same : (n : ℕ) (f g : ℕ → ℕ) → ((j : ℕ) → j < n → f j ≡ g j)
    → sum_below n f ≡ sum_below n g
below_same zero f g h = refl
below_same (suc n) f g h
    = omega (arith, below_same n f g (λ j l. h j (omega arith)), h n (omega arith))

pub below_add : (n : ℕ) (f g : ℕ → ℕ) → sum_below n (λ j. f j + g j) ≡ sum_below n f + sum_below n g
below_add zero f g = refl
below_add (suc n) f g = omega (arith, below_add n f g)

pub below_none : (n : ℕ) → sum_below n (λ _. 0) ≡ 0
below_none zero = refl
below_none (suc n) = omega (arith, below_none n)

pub below_ones : (n : ℕ) (f : ℕ → ℕ) → ((j : ℕ) → f j ≤ 1) → sum_below n f ≤ n
below_ones zero f h = omega arith
below_ones (suc n) f h = omega (arith, below_ones n f h, h n)

missed : (a n c : ℕ) → a ≢ n → cond (a == n) c 0 ≡ 0
missed a n c ne = ap (λ (t : Bool). cond t c 0) (ne_eqb a n ne)

pub below_past : (n a c : ℕ) → n ≤ a → sum_below n (λ j. cond (a == j) c 0) ≡ 0
below_past zero a c h = refl
below_past (suc n) a c h
    = omega (arith, below_past n a c (omega arith), missed a n c (λ e. omega (arith, e)))

-- one number has all
pub below_hit : (n a c : ℕ) → a < n → sum_below n (λ j. cond (a == j) c 0) ≡ c
below_hit zero a c h = absurd (omega arith)
below_hit (suc n) a c h = ⊎_elim
    (λ (e : (a == n) ≡ true). omega (arith, below_past n a c (let q = eqb-true a n e in omega (arith, q)), ap (λ (t : Bool). cond t c 0) e))
    (λ (e : (a == n) ≡ false). omega (arith, below_hit n a c (less a n e h), ap (λ (t : Bool). cond t c 0) e))
    (cases_Bool (a == n))
  where
    less : (a n : ℕ) → (a == n) ≡ false → a < suc n → a < n
    less a n e l = grind (arith, nat_tests)

module _ {A : Type 0} where
  -- the two sums change places
  pub below_swap : (n : ℕ) (F : ℕ → A → ℕ) (l : List A)
      → sum_below n (λ j. sum_by (F j) l) ≡ sum_by (λ v. sum_below n (λ j. F j v)) l
  below_swap n F [] = below_none n
  below_swap n F (x ∷ xs) =
      omega (
        arith,
        below_same n (λ j. sum_by (F j) (x ∷ xs)) (λ j. F j x + sum_by (F j) xs)
            (λ j _. sum_by-cons (F j) x xs),
        below_add n (λ j. F j x) (λ j. sum_by (F j) xs),
        below_swap n F xs,
        sum_by-cons (λ v. sum_below n (λ j. F j v)) x xs,
      )
