-- A sum over walks is a sum over the numbers, and the walk with a number.
use Rattle.std.proofs.Common.{◌≡◌, ℕ, suc, ◌+◌, ◌<◌, Bool, true, false, cond, List, [], ◌∷◌, refl}
use Rattle.std.proofs.Common.{sym, ap, ◌∙◌, ⊎_elim, arith}
use Rattle.std.specs.Prelude.{◌==◌, sum_by, Contains}
use Rattle.std.proofs.lemmas.List.Sums.{sum_by-cons}
use Rattle.arena_rule.specs.Views.{Walked}
use Rattle.arena_rule.proofs.Below.{sum_below, below_hit, below_same, below_swap}
use Rattle.arena_rule.proofs.Numbers.{times_walked, value_walked, walked-cons, value-cons}
use Rattle.arena_rule.proofs.Numbers.{value-none}
use Rattle.std.proofs.lemmas.Bool.{eqb-true, cases_Bool}
use Rattle.std.proofs.lemmas.Bool.Decides.{nat_tests}

-- what a walk with the number j counts
abbrev pub if_here : ℕ → (ℕ → ℕ) → Walked → ℕ
if_here j g w = cond (w.number == j) (g w.value) 0

-- if a number has no walk, nothing counts
pub none-here : (j : ℕ) (g : ℕ → ℕ) (walks : List Walked) → times_walked j walks ≡ 0
    → sum_by (if_here j g) walks ≡ 0
none-here j g [] e = refl
none-here j g (w ∷ walks) e = by (w.number == j) (times_walked j walks) (sum_by (if_here j g) walks)
    (g w.value) (sym (walked-cons j w walks) ∙ e) (none-here j g walks)
    (sum_by-cons (if_here j g) w walks)
  where
    by : (t : Bool) (c s x : ℕ) {m : ℕ} → cond t 1 0 + c ≡ 0 → (c ≡ 0 → s ≡ 0)
        → m ≡ cond t x 0 + s → m ≡ 0
    by true c s x e h q = absurd (omega arith)
    by false c s x e h q = omega (arith, q, h (omega arith))

-- if a number has one walk, its value counts
pub one-here : (j : ℕ) (g : ℕ → ℕ) (walks : List Walked) → times_walked j walks ≡ 1
    → sum_by (if_here j g) walks ≡ g (value_walked j walks)
one-here j g [] e = absurd (omega arith)
one-here j g (w ∷ walks) e =
    by (w.number == j) (times_walked j walks) (value_walked j walks)
    (sum_by (if_here j g) walks) w.value (sym (walked-cons j w walks) ∙ e) (one-here j g walks)
    (none-here j g walks) (value-none j walks)
    (sum_by-cons (if_here j g) w walks) (value-cons j w walks)
  where
    by : (t : Bool) (c s m x : ℕ) {a b : ℕ} → cond t 1 0 + c ≡ 1 → (c ≡ 1 → m ≡ g s)
        → (c ≡ 0 → m ≡ 0) → (c ≡ 0 → s ≡ 0) → a ≡ cond t (g x) 0 + m → b ≡ cond t x 0 + s → a ≡ g b
    by true c s m x {a} {b} e rec no_m no_s p q = let z : c ≡ 0 = omega arith in
        let same : x ≡ b = omega (arith, q, no_s z) in omega (arith, p, no_m z, ap g same)
    by false c s m x {a} {b} e rec no_m no_s p q = let same : s ≡ b = omega (arith, q) in
        omega (arith, p, rec (omega arith), ap g same)

-- what walks count is what the numbers below n count in them
pub numbered : (n : ℕ) (f : ℕ → ℕ → ℕ) (walks : List Walked)
    → ((w : Walked) → Contains walks w → w.number < n)
    → sum_by (λ w. f w.number w.value) walks ≡ sum_below n (λ j. sum_by (if_here j (f j)) walks)
numbered n f walks low =
    spread walks low
    ∙ sym (below_swap n (λ j w. cond (w.number == j) (f w.number w.value) 0) walks)
    ∙ below_same n (λ j. sum_by (λ w. cond (w.number == j) (f w.number w.value) 0) walks)
    (λ j. sum_by (if_here j (f j)) walks) (λ j l. keyed j walks)
  where
    spread : (ws : List Walked) → ((w : Walked) → Contains ws w → w.number < n)
        → sum_by (λ w. f w.number w.value) ws ≡ sum_by
        (λ w. sum_below n (λ j. cond (w.number == j) (f w.number w.value) 0)) ws
    spread [] h = refl
    spread (w ∷ ws) h =
        omega (
          arith,
          sum_by-cons (λ q. f q.number q.value) w ws,
          sum_by-cons (λ q. sum_below n (λ j. cond (q.number == j) (f q.number q.value) 0)) w ws,
          below_hit n w.number (f w.number w.value) (h w (0, omega arith, refl)),
          spread ws (λ q c. h q (suc c.0, (let l = c.1 in omega arith), c.2)),
        )

    same-key : (a j x : ℕ) → cond (a == j) (f a x) 0 ≡ cond (a == j) (f j x) 0
    same-key a j x = ⊎_elim
        (λ (e : (a == j) ≡ true). ap (λ (z : ℕ). cond (a == j) (f z x) 0) (eqb-true a j e))
        (λ (e : (a == j) ≡ false). ap (λ (t : Bool). cond t (f a x) 0) e ∙ sym (ap (λ (t : Bool). cond t (f j x) 0) e))
        (cases_Bool (a == j))

    keyed : (j : ℕ) (ws : List Walked)
        → sum_by (λ w. cond (w.number == j) (f w.number w.value) 0) ws ≡ sum_by (if_here j (f j)) ws
    keyed j [] = refl
    keyed j (w ∷ ws) =
        omega (
          arith,
          sum_by-cons (λ q. cond (q.number == j) (f q.number q.value) 0) w ws,
          sum_by-cons (if_here j (f j)) w ws,
          same-key w.number j w.value,
          keyed j ws,
        )

-- if each number below n has one walk, its value counts
pub by-number : (n : ℕ) (f : ℕ → ℕ → ℕ) (walks : List Walked)
    → ((j : ℕ) → j < n → times_walked j walks ≡ 1)
    → ((w : Walked) → Contains walks w → w.number < n)
    → sum_by (λ w. f w.number w.value) walks ≡ sum_below n (λ j. f j (value_walked j walks))
by-number n f walks once low = numbered n f walks low
    ∙ below_same n (λ j. sum_by (if_here j (f j)) walks) (λ j. f j (value_walked j walks))
    (λ j l. one-here j (f j) walks (once j l))

-- a walk with the number j, and the value that all walks have for it
pub record FoundWalk (j : ℕ) (walks : List Walked) : Type 0 where
  pub walk : Walked
  pub found : Contains walks walk
  pub number : walk.number ≡ j
  pub value : walk.value ≡ value_walked j walks

-- if a number has one walk, this is found
pub find-walk : (j : ℕ) (walks : List Walked) → times_walked j walks ≡ 1 → FoundWalk j walks
find-walk j [] e = absurd (omega arith)
find-walk j (w ∷ walks) e = by (w.number == j) refl (sym (walked-cons j w walks) ∙ e)
    (value-cons j w walks) (find-walk j walks)
  where
    same : (a b : ℕ) → (a == b) ≡ true → a ≡ b
    same a b e = grind (arith, nat_tests)

    by : (t : Bool) → (w.number == j) ≡ t → cond t 1 0 + times_walked j walks ≡ 1
        → value_walked j (w ∷ walks) ≡ cond t w.value 0 + value_walked j walks
        → (times_walked j walks ≡ 1 → FoundWalk j walks) → FoundWalk j (w ∷ walks)
    by true n c q rec
        = record { walk = w; found = (0, omega arith, refl); number = same w.number j n; value = omega (arith, q, value-none j walks (omega (arith, c))) }
    by false n c q rec =
        let f : FoundWalk j walks = rec (omega (arith, c)) in
        record { walk = f.walk; found = (suc f.found.0, (let l = f.found.1 in omega arith), f.found.2); number = f.number; value = omega (arith, q, f.value) }
