-- Of the numbers below n one is left less if a new one is drawn.
use Rattle.std.proofs.Common.{◌≡◌, ◌≢◌, ℕ, ◌+◌, ◌<◌, ◌≤◌, Bool, true, false, cond, List, [], ◌∷◌}
use Rattle.std.proofs.Common.{zero, suc, refl, sym, ap, ◌∙◌, arith, ⊎_elim}
use Rattle.std.specs.Prelude.{◌==◌, ◌||◌, Contains}
use Rattle.std.proofs.lemmas.Bool.{cases_lt, eq-eqb, ne_eqb}
use Rattle.arena_rule.specs.Views.{Walked}
use Rattle.search_team.specs.WorkLeft.{has_walk, count_left}

-- the numbers and x
abbrev pub and_number : ℕ → (ℕ → Bool) → ℕ → Bool
and_number x f k = (x == k) || f k

-- a number that is no less than n changes nothing
pub left-past : (f : ℕ → Bool) (x n : ℕ) → n ≤ x → count_left (and_number x f) n ≡ count_left f n
left-past f x zero l = refl
left-past f x (suc n) l =
    let e : (x == n) ≡ false = ne_eqb x n (λ z. omega (arith, z, l)) in
    let h = left-past f x n (omega (arith, l)) in
    ap (λ (t : Bool). cond (t || f n) 0 1 + count_left (and_number x f) n) e
    ∙ ap (λ (m : ℕ). cond (f n) 0 1 + m) h

-- a new number below n is one less
pub left-less : (f : ℕ → Bool) (x n : ℕ) → x < n → f x ≡ false
    → count_left f n ≡ 1 + count_left (and_number x f) n
left-less f x zero l e = absurd (omega (arith, l))
left-less f x (suc n) l e = ⊎_elim (λ s. below s (left-less f x n s e)) last (cases_lt x n)
  where
    below : x < n → count_left f n ≡ 1 + count_left (and_number x f) n
        → count_left f (suc n) ≡ 1 + count_left (and_number x f) (suc n)
    below s h =
        let d : (x == n) ≡ false = ne_eqb x n (λ z. omega (arith, z, s)) in
        let q : count_left (and_number x f) (suc n) ≡ cond (f n) 0 1 + count_left (and_number x f) n
        = ap (λ (t : Bool). cond (t || f n) 0 1 + count_left (and_number x f) n) d in
        omega (arith, h, q)

    last : n ≤ x → count_left f (suc n) ≡ 1 + count_left (and_number x f) (suc n)
    last s =
        let is : x ≡ n = omega (arith, s, l) in
        let d : (x == n) ≡ true = eq-eqb x n is in
        let h = left-past f x n s in
        let c : count_left f (suc n) ≡ 1 + count_left f n
        = ap (λ (t : Bool). cond t 0 1 + count_left f n) (ap f (sym is) ∙ e) in
        let q : count_left (and_number x f) (suc n) ≡ 0 + count_left (and_number x f) n
        = ap (λ (t : Bool). cond (t || f n) 0 1 + count_left (and_number x f) n) d in
        omega (arith, c, q, h)

-- no walk has the number
pub walk-none : (walks : List Walked) (x : ℕ) → ((w : Walked) → Contains walks w → w.number ≢ x)
    → has_walk walks x ≡ false
walk-none [] x none = refl
walk-none (w ∷ walks) x none =
    let d : (w.number == x) ≡ false = ne_eqb w.number x (none w (0, omega arith, refl)) in
    let h : has_walk walks x ≡ false
    = walk-none walks x (λ u c. none u (suc c.0, (let l = c.1 in omega (arith, l)), c.2)) in
    ap (λ (t : Bool). t || has_walk walks x) d ∙ h
