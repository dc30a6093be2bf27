-- What a place of the table of reciprocal roots holds.
use Rattle.std.proofs.Common.{◌≡◌, ℕ, zero, suc, ◌+◌, ◌*◌, ◌^◌, ◌<◌, ◌≤◌, ◌==◌, ◌&&◌, ◌||◌, nat_lt}
use Rattle.std.proofs.Common.{nat_le, Bool, true, false, subst, List, [], ◌∷◌, length, get_or}
use Rattle.std.proofs.Common.{arith}
use Rattle.uct_table.specs.ReciprocalRoots.{is_above_root, are_above_roots}

both : (a b : Bool) → (a && b) ≡ true → (a ≡ true) × (b ≡ true)
both a b e = grind arith

pub test_at : (v : ℕ) (rs : List ℕ) (i : ℕ) → i < length rs → are_above_roots v rs ≡ true → is_above_root (v + i) (get_or rs i 0) ≡ true
unfolding are_above_roots
test_at v [] i lt e = absurd (omega arith)
test_at v (r ∷ rs) zero lt e = let same : v + zero ≡ v = omega arith in rw same ((both (is_above_root v r) (are_above_roots (v + 1) rs) e).0)
test_at v (r ∷ rs) (suc i) lt e =
    let same : v + suc i ≡ (v + 1) + i = omega arith in
    rw same (test_at (v + 1) rs i (omega arith) ((both (is_above_root v r) (are_above_roots (v + 1) rs) e).1))

passed : (v r : ℕ) → 1 ≤ v → is_above_root v r ≡ true → (2 ^ 40 < r * r * v) × (r ≤ 2 ^ 20 + 1)
passed v r some e =
    let no : (v == 0) ≡ false = grind arith in
    let two : (nat_lt (2 ^ 40) (r * r * v) && nat_le r (2 ^ 20 + 1))
    ≡ true = subst (λ b. (b || (nat_lt (2 ^ 40) (r * r * v) && nat_le r (2 ^ 20 + 1))) ≡ true) no e in
    let parts = both (nat_lt (2 ^ 40) (r * r * v)) (nat_le r (2 ^ 20 + 1)) two in
    (grind (arith, parts.0), grind (arith, parts.1))

-- the number of a place from 1 on
at : (rs : List ℕ) (v : ℕ) → 1 ≤ v → v < length rs → are_above_roots 0 rs ≡ true → (2 ^ 40 < get_or rs v 0 * get_or rs v 0 * v) × (get_or rs v 0 ≤ 2 ^ 20 + 1)
at rs v some lt e = let same : 0 + v ≡ v = omega arith in passed v (get_or rs v 0) some (subst (λ n. is_above_root n (get_or rs v 0)
    ≡ true) same (test_at 0 rs v lt e))

pub above_at : (rs : List ℕ) (v : ℕ) → 1 ≤ v → v < length rs → are_above_roots 0 rs ≡ true → 2 ^ 40 < get_or rs v 0 * get_or rs v 0 * v
above_at rs v some lt e = (at rs v some lt e).0

pub bounded_at : (rs : List ℕ) (v : ℕ) → 1 ≤ v → v < length rs → are_above_roots 0 rs ≡ true → get_or rs v 0 ≤ 2 ^ 20 + 1
bounded_at rs v some lt e = (at rs v some lt e).1

-- what `reciprocal_root` is proved from
pub ruleset root_rules = (above_at, bounded_at)
