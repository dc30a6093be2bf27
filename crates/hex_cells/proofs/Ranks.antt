-- The place of a cell in a set.
use Rattle.std.proofs.Common.{◌≡◌, ℕ, ◌+◌, ◌-◌, ◌*◌, ◌%◌, ◌^◌, ◌<◌, ◌≤◌, Bool, true, false, cond}
use Rattle.std.proofs.Common.{refl, sym, ◌∙◌, ap, arith, bit_and}
use Rattle.std.specs.Prelude.{count_ones}
use Rattle.std.proofs.lemmas.Nat.{and_mask}
use Rattle.hex_cells.specs.Sets.{has, members}
use Rattle.hex_cells.proofs.Bits.{one_shl}
use Rattle.hex_cells.proofs.Counts.{members_ones, members_more}

-- the ones below bit k are the members below k
pub ranked : (a k : ℕ) → k ≤ 121 → count_ones (bit_and a (1 * 2 ^ k % 2 ^ 128 - 1)) ≡ members a k
ranked a k h = ap (λ v. count_ones (bit_and a (v - 1))) (one_shl k h)
    ∙ (ap count_ones (and_mask a k) ∙ sym (members_ones a k))

risen : (b : Bool) (m k : ℕ) → m ≤ k → k < cond b 1 0 + m → (b ≡ true) × (m ≡ k)
risen true m k l h = (refl, omega arith)
risen false m k l h = absurd (omega arith)

-- if the count passes k within one cell, that cell is the one with k cells below it
pub found_at : (s k a w : ℕ) → 1 ≤ w → w ≤ 1 → members s a ≤ k → k < members s (a + w)
    → (has s a ≡ true) × (members s a ≡ k)
found_at s k a w f g l h =
    let e : a + w ≡ a + 1 = omega arith in
    risen (has s a) (members s a) k l (rw (members_more s a) at (rw e at h))
