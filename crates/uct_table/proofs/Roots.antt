-- The greatest number that passes, found by its bounds.
use Rattle.std.proofs.Common.{◌≡◌, ℕ, zero, suc, ◌+◌, ◌*◌, ◌/◌, ◌^◌, ◌<◌, ◌≤◌, Bool, true, false, nat_le, refl, arith, inl, inr}
use Rattle.std.proofs.lemmas.Nat.{mul-le, le-div, div_below}
use Rattle.std.proofs.lemmas.Bool.{cases_lt, cases_Bool}
use Rattle.std.proofs.Math.Pow.{pow_mono}
use Rattle.std.proofs.Math.Nat.{pow-suc, one-le-pow}
use Rattle.uct_table.specs.Scores.{greatest, isqrt, log2}

pub greatest_is : (passes : ℕ → Bool) (top n : ℕ) → n ≤ top → passes n ≡ true → ((k : ℕ) → n < k → k ≤ top → passes k ≡ false) → greatest passes top ≡ n
unfolding greatest
greatest_is passes zero n le holds none = omega arith
greatest_is passes (suc top) n le holds none = elim (cases_lt n (suc top)) [
  | inl lt ↦ rw (none (suc top) lt (omega arith)) (greatest_is passes top n (omega arith) holds (λ k above up. none k above (omega arith)))
  | inr ge ↦ let same : suc top ≡ n = omega arith in rw (same, holds) refl
]

-- the greatest number that passes does pass, if 0 does
greatest_passes : (passes : ℕ → Bool) (top : ℕ) → passes 0 ≡ true → passes (greatest passes top) ≡ true
unfolding greatest
greatest_passes passes zero first = first
greatest_passes passes (suc n) first = elim (cases_Bool (passes (suc n))) [
  | inl holds ↦ rw holds holds
  | inr fails ↦ rw fails (greatest_passes passes n first)
]

-- none above it passes
greatest_most : (passes : ℕ → Bool) (top k : ℕ) → greatest passes top < k → k ≤ top → passes k ≡ false
unfolding greatest
greatest_most passes zero k above up = absurd (omega arith)
greatest_most passes (suc n) k above up = elim (cases_Bool (passes (suc n))) [
  | inl holds ↦ let top : greatest passes (suc n) ≡ suc n = rw holds refl in absurd (omega arith)
  | inr fails ↦ let down : greatest passes (suc n) ≡ greatest passes n = rw fails refl in elim (cases_lt n k) [
    | inl lt ↦ let same : k ≡ suc n = omega arith in rw same fails
    | inr le ↦ greatest_most passes n k (omega arith) le
  ]
]

le_square : (r : ℕ) → r ≤ r * r
le_square zero = omega arith
le_square (suc r) = let le : suc r * 1 ≤ suc r * suc r = mul-le (suc r) 1 (suc r) (suc r) (omega arith) (omega arith) in omega (arith, le)

one-le_power : (b : ℕ) → 1 ≤ 2 ^ b
one-le_power b = one-le-pow b 2 (omega arith)

below_power : (b : ℕ) → b ≤ 2 ^ b
below_power zero = omega arith
below_power (suc b) = omega (arith, below_power b, pow-suc 2 b, one-le_power b)

pub isqrt_is : (x r : ℕ) → r * r ≤ x → x < (r + 1) * (r + 1) → isqrt x ≡ r
unfolding isqrt
isqrt_is x r low high = greatest_is (λ k. nat_le (k * k) x) x r (omega (arith, le_square r)) (grind arith)
    (λ k above up. let more : (r + 1) * (r + 1) ≤ k * k = mul-le (r + 1) (r + 1) k k (omega arith) (omega arith) in grind (arith, more))

pub log2_is : (p b : ℕ) → 2 ^ b ≤ p → p < 2 * 2 ^ b → log2 p ≡ b
unfolding log2
log2_is p b low high = greatest_is (λ k. nat_le (2 ^ k) p) p b (omega (arith, below_power b)) (grind arith)
    (λ k above up. let more : 2 ^ (b + 1) ≤ 2 ^ k = pow_mono (omega arith) in grind (arith, more, pow-suc 2 b))

pub isqrt_low : (x : ℕ) → isqrt x * isqrt x ≤ x
unfolding isqrt
isqrt_low x = let passes = greatest_passes (λ r. nat_le (r * r) x) x (grind arith) in grind (arith, passes)

too_great : (x : ℕ) → (isqrt x + 1) * (isqrt x + 1) ≤ x → ⊥
unfolding isqrt
too_great x ge =
    let up : isqrt x + 1 ≤ x = omega (arith, le_square (isqrt x + 1)) in
    let fails = greatest_most (λ r. nat_le (r * r) x) x (isqrt x + 1) (omega arith) up in
    grind (arith, fails)

pub isqrt_high : (x : ℕ) → x < (isqrt x + 1) * (isqrt x + 1)
isqrt_high x = elim (cases_lt x ((isqrt x + 1) * (isqrt x + 1))) [
  | inl lt ↦ lt
  | inr ge ↦ absurd (too_great x ge)
]

-- the root of a quotient, by the number that is divided
pub root_is : (n d r : ℕ) → 0 < d → r * r * d ≤ n → n < (r + 1) * (r + 1) * d → isqrt (n / d) ≡ r
root_is n d r positive low high = isqrt_is (n / d) r (le-div (r * r) n d positive low) (div_below n d ((r + 1) * (r + 1)) positive high)
