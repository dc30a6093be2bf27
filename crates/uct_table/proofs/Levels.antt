-- How great a level is.
use Rattle.std.proofs.Common.{◌≡◌, ℕ, ◌+◌, ◌-◌, ◌*◌, ◌/◌, ◌%◌, ◌^◌, ◌<◌, ◌≤◌, arith, inl, inr}
use Rattle.std.proofs.lemmas.Nat.{div_below}
use Rattle.std.proofs.lemmas.Bool.{cases_lt}
use Rattle.std.proofs.Math.Pow.{pow_mono}
use Rattle.std.proofs.Math.Nat.{one-le-pow}

-- the logarithm of at most 2^20 is at most 20
log_small : (b p : ℕ) → 2 ^ b ≤ p → p ≤ 1048576 → b < 21
log_small b p low few = elim (cases_lt b 21) [
  | inl lt ↦ lt
  | inr ge ↦ let more : 2 ^ 21 ≤ 2 ^ b = pow_mono ge in absurd (omega (arith, more, low, few))
]

pub level_small : (b p : ℕ) → 2 ^ b ≤ p → p < 2 * 2 ^ b → p ≤ 1048576 → 256 * b + 256 * (p - 1 * 2 ^ b % 4294967296) / 2 ^ b ≤ 5376
level_small b p low high few =
    let log = log_small b p low few in
    let some : 1 ≤ 2 ^ b = one-le-pow b 2 (omega arith) in
    let same : 1 * 2 ^ b % 4294967296 ≡ 2 ^ b = omega (arith, low, few) in
    let part : 256 * (p - 1 * 2 ^ b % 4294967296) / 2 ^ b < 257 = div_below (256 * (p - 1 * 2 ^ b % 4294967296)) (2 ^ b) 257 some (omega (
      arith,
      same,
      high,
      some,
    )) in
    omega (arith, log, part)
