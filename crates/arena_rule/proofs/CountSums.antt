-- Sums of amounts as two counts: how many of the numbers below n have a visit, and how many a win.
use Rattle.std.proofs.Common.{◌≡◌, ℕ, zero, suc, ◌+◌, ◌*◌, ◌<◌, ◌≤◌, Bool, true, false, cond, refl}
use Rattle.std.proofs.Common.{arith}
use Rattle.std.specs.Prelude.{◌&&◌}
use Rattle.tree_words.specs.Words.{count_in, visits_in, wins_in}
use Rattle.tree_words.specs.Blocks.{one_if}
use Rattle.tree_words.specs.Sequence.{amount_of}
use Rattle.tree_words.specs.Counts.{count_below}
use Rattle.tree_words.specs.declared.layout.TheConstants.{VISIT}
use Rattle.arena_rule.proofs.Below.{sum_below}

-- amounts of visits and wins add up to two counts
pub sum-counts : (n : ℕ) (t u : ℕ → Bool)
    → sum_below n (λ k. cond (t k) (amount_of (u k)) 0) ≡ VISIT * count_below n t + count_below n
    (λ k. t k && u k)
sum-counts zero t u = refl
sum-counts (suc n) t u = omega (arith, sum-counts n t u, by (t n) (u n))
  where
    by : (a b : Bool) → cond a (amount_of b) 0 ≡ VISIT * one_if a + one_if (a && b)
    by true true = refl
    by true false = refl
    by false b = refl

-- a count is a sum of ones
pub count-sum : (n : ℕ) (t : ℕ → Bool) → sum_below n (λ k. one_if (t k)) ≡ count_below n t
count-sum zero t = refl
count-sum (suc n) t = omega (arith, count-sum n t)

pub one-most : (t : Bool) → one_if t ≤ 1
one-most true = omega arith
one-most false = omega arith

-- a word of visits and wins
pub count-is : (n v w : ℕ) → n ≡ VISIT * v + w → w < VISIT
    → count_in n ≡ record { visits = v; wins = w }
count-is n v w e l =
    let visits : visits_in n ≡ v = omega (arith, e) in
    let wins : wins_in n ≡ w = omega (arith, e) in
    λ i. record { visits = visits i; wins = wins i }
