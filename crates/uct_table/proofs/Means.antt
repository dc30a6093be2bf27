-- A mean is at most a number if its unrounded parts are.
use Rattle.std.proofs.Common.{◌≡◌, ℕ, zero, suc, ◌+◌, ◌*◌, ◌/◌, ◌<◌, ◌≤◌, ◌==◌, false, arith, inl, inr}
use Rattle.std.proofs.lemmas.Nat.{mul-le, div_below}
use Rattle.std.proofs.lemmas.Bool.{cases_lt}
use Rattle.std.proofs.Math.Nat.{div-mul-le_self}
use Rattle.uct_table.specs.Scores.{mean_of}

-- m is at most w and s at most b, each times its divisor, so their weighed sum is low
sum_low : (k v m w s a b : ℕ) → m * v ≤ 65536 * w → s * a ≤ 65536 * b → 65536 * (w * a + 64 * b) < k * ((v + 64) * a) → v * m + 64 * s < k * (v + 64)
sum_low k v m w s a b own seen low = elim (cases_lt (v * m + 64 * s) (k * (v + 64))) [
  | inl lt ↦ lt
  | inr ge ↦
      let owned : (m * v) * a ≤ (65536 * w) * a = mul-le (m * v) a (65536 * w) a own (omega arith) in
      let all : (k * (v + 64)) * a ≤ (v * m + 64 * s) * a = mul-le (k * (v + 64)) a (v * m + 64 * s) a ge (omega arith) in
      absurd (omega (arith, owned, all, seen, low))
]

pub mean_is_low : (floor v w a b : ℕ) → 65536 * (w * a + 64 * b) < (floor + 1) * ((v + 64) * a) → mean_of v w a b ≤ floor
unfolding mean_of
mean_is_low floor v w zero b low = absurd (omega (arith, low))
mean_is_low floor v w (suc a) b low =
    let own = div-mul-le_self (65536 * w) v in
    let seen = div-mul-le_self (65536 * b) (suc a) in
    let lt = div_below (v * (65536 * w / v) + 64 * (65536 * b / suc a)) (v + 64) (floor
    + 1) (omega arith) (sum_low (floor + 1) v (65536 * w / v) w (65536 * b / suc a) (suc a) b own seen low) in
    let some : (suc a == 0) ≡ false = grind arith in
    rw some (omega (arith, lt))
