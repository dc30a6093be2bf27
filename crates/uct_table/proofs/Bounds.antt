-- The bonus of a child is bounded by the product of its parent's factor and a reciprocal root.
use Rattle.std.proofs.Common.{◌≡◌, ℕ, ◌+◌, ◌-◌, ◌*◌, ◌/◌, ◌^◌, ◌<◌, ◌≤◌, ap, ◌∙◌, subst, arith, inl, inr}
use Rattle.std.proofs.lemmas.Nat.{mul-le, le-div, div_below, pow-add}
use Rattle.std.proofs.lemmas.Grind.{pow_more}
use Rattle.std.proofs.lemmas.Bool.{cases_lt}
use Rattle.std.proofs.Math.Nat.{div-mul-le_self, one-le-pow}
use Rattle.std.proofs.Math.Pow.{pow_mono}
use Rattle.uct_table.specs.Scores.{isqrt, level_of, bonus_of}
use Rattle.uct_table.proofs.Roots.{isqrt_low}

-- of two numbers, that one is the lesser whose square, times v, is
lesser : (v x y : ℕ) → x * x * v < y * y * v → x < y
lesser v x y lt = elim (cases_lt x y) [
  | inl less ↦ less
  | inr ge ↦
      let squares : y * y ≤ x * x = mul-le y y x x ge ge in
      let all : y * y * v ≤ x * x * v = mul-le (y * y) v (x * x) v squares (omega arith) in
      absurd (omega (arith, all, lt))
]

-- a square times 2^40 is below a product of two that are above it and above 2^40
above_both : (x k s : ℕ) → x < k → 2 ^ 40 < s → x * 2 ^ 40 < k * s
above_both x k s lt more = let all : (x + 1) * 2 ^ 40 ≤ k * s = mul-le (x + 1) (2 ^ 40) k s (omega (arith, lt)) (omega (arith, more)) in omega (arith, all)

-- a root r of what is no more than l by v, times the weight c, times 2^20, is below the factor times the reciprocal root
root_below : (c l r v k s : ℕ) → c * c * l < k * k → 2 ^ 40 < s * s * v → r * r * v ≤ l → c * r * 2 ^ 20 < k * s
root_below c l r v k s factor root under =
    let weighed : c * c * (r * r * v) ≤ c * c * l = mul-le (c * c) (r * r * v) (c * c) l (omega arith) under in
    let both : (c * c * (r * r * v)) * 2 ^ 40 < (k * k) * (s * s * v) = above_both (c * c * (r * r * v)) (k * k) (s * s * v) (omega (
      arith,
      weighed,
      factor,
    )) root in
    lesser v (c * r * 2 ^ 20) (k * s) (omega (arith, both))

-- the root of a quotient by v
root_under : (l v : ℕ) → isqrt (l / v) * isqrt (l / v) * v ≤ l
root_under l v =
    let r : ℕ = isqrt (l / v) in
    let low : r * r ≤ l / v = isqrt_low (l / v) in
    omega (arith, mul-le (r * r) v (l / v) v low (omega arith), div-mul-le_self l v)

pub bonus_bound : (p v c k s : ℕ) → c * c * (level_of p * 2 ^ 24) < k * k → 2 ^ 40 < s * s * v → bonus_of p v c ≤ k * s / 2 ^ 28
unfolding bonus_of
bonus_bound p v c k s factor root =
    let l : ℕ = level_of p * 2 ^ 24 in
    let r : ℕ = isqrt (l / v) in
    let below : c * r * 2 ^ 20 < k * s = root_below c l r v k s factor root (root_under l v) in
    let whole : (c * r / 256) * 256 ≤ c * r = div-mul-le_self (c * r) 256 in
    le-div (c * r / 256) (k * s) (2 ^ 28) (omega arith) (omega (arith, below, whole))

-- if v is no less than q times the square of t, the root of a quotient by v is no more than t-th the root of one by q
shared_root : (l r v q t : ℕ) → q * (t * t) ≤ v → r * r * v ≤ l → (r * t) * (r * t) * q ≤ l
shared_root l r v q t less under =
    let all : r * r * (q * (t * t)) ≤ r * r * v = mul-le (r * r) (q * (t * t)) (r * r) v (omega arith) less in
    omega (arith, all, under)

shared_bound : (x n t m : ℕ) → 0 < t → x * t * 2 ^ 20 < n → m ≡ 2 ^ 28 * t → x / 256 ≤ n / m
shared_bound x n t m some below is =
    let whole : (x / 256) * 256 * t ≤ x * t = mul-le ((x / 256) * 256) t x t (div-mul-le_self x 256) (omega arith) in
    let up : (x / 256) * (2 ^ 28 * t) ≤ n = omega (arith, whole, below) in
    rw is (le-div (x / 256) n (2 ^ 28 * t) (omega arith) up)

-- the bonus of v visits, by the reciprocal root of v over 4 to the h
pub quartered_bound : (p v c k s h : ℕ) → c * c * (level_of p * 2 ^ 24) < k * k → 2 ^ 40 < s * s * (v / 2 ^ (2 * h)) → bonus_of p v c ≤ k * s / 2 ^ (28 + h)
unfolding bonus_of
quartered_bound p v c k s h factor root =
    let l : ℕ = level_of p * 2 ^ 24 in
    let r : ℕ = isqrt (l / v) in
    let t : ℕ = 2 ^ h in
    let q : ℕ = v / 2 ^ (2 * h) in
    let square : 2 ^ (2 * h) ≡ t * t = ap (λ (n : ℕ). 2 ^ n) (double h) ∙ pow-add 2 h h in
    let less : q * 2 ^ (2 * h) ≤ v = div-mul-le_self v (2 ^ (2 * h)) in
    let shared : q * (t * t) ≤ v = subst (λ (n : ℕ). q * n ≤ v) square less in
    let below : c * (r * t) * 2 ^ 20 < k * s = root_below c l (r * t) q k s factor root (shared_root l r v q t shared (root_under l v)) in
    shared_bound (c * r) (k * s) t (2 ^ (28 + h)) (one-le-pow h 2 (omega arith)) (omega (arith, below)) (pow-add 2 28 h)
  where
    double : (n : ℕ) → 2 * n ≡ n + n
    double n = omega arith

-- more visits than the table has: their quotient is in the table
pub in_table : (v k : ℕ) → 2 ^ k ≤ v → v < 2 * 2 ^ k → 1024 ≤ v → (1 ≤ v / 2 ^ (2 * ((k - 8) / 2))) × (v / 2 ^ (2 * ((k - 8) / 2)) < 1024)
in_table v k low high many = (
  le-div 1 v d some (omega (arith, low, down)),
  div_below v d 1024 some (omega (arith, high, up, next, tens)),
)
  where
    h : ℕ
    h = (k - 8) / 2

    d : ℕ
    d = 2 ^ (2 * h)

    some : 0 < d
    some = one-le-pow (2 * h) 2 (omega arith)

    -- 2^k is 1,024 or more
    great : 10 ≤ k
    great = elim (cases_lt k 10) [
      | inl lt ↦ let few : 2 ^ k ≤ 2 ^ 9 = pow_mono {j = 9} (omega (arith, lt)) in absurd (omega (arith, few, high, many))
      | inr ge ↦ ge
    ]

    down : d ≤ 2 ^ k
    down = pow_mono (omega (arith, great))

    up : 2 ^ (k + 1) ≤ 2 ^ (10 + 2 * h)
    up = pow_mono (omega (arith, great))

    next : 2 ^ (k + 1) ≡ 2 ^ k * 2
    next = pow_more 2 k

    tens : 2 ^ (10 + 2 * h) ≡ 2 ^ 10 * d
    tens = pow-add 2 10 (2 * h)

-- a root of less than 2^58 is below 2^29
pub factor_bound : (x : ℕ) → x < 2 ^ 58 → isqrt x < 2 ^ 29
factor_bound x small = lesser 1 (isqrt x) (2 ^ 29) (omega (arith, isqrt_low x))
