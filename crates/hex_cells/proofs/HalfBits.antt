-- The halves of a set's number: a word of 64 bits, its bits and how many there are.
use Rattle.std.proofs.Common.{◌≡◌, ℕ, ◌+◌, ◌-◌, ◌*◌, ◌/◌, ◌%◌, ◌^◌, ◌<◌, ◌≤◌, ◌==◌, ◌&&◌, not, true}
use Rattle.std.proofs.Common.{false, cond, bit_and, bit_xor, refl, sym, ◌∙◌, ap, arith, inl, inr}
use Rattle.std.proofs.Common.{zero, suc, subst}
use Rattle.std.specs.Prelude.{count_ones}
use Rattle.std.specs.Int.{bit_at, trailing_zeros, w64}
use Rattle.std.proofs.lemmas.Bool.{cases_eq}
use Rattle.std.proofs.lemmas.Bool.Decides.{nat_tests}
use Rattle.std.proofs.lemmas.Nat.{and_mask, shl_whole}
use Rattle.std.proofs.lemmas.Nat.Bits.{bit_at-trailing_zeros, bit_at_xor, bit_at-lt}
use Rattle.std.proofs.lemmas.Nat.Bits.{bit_at-pow_same, bit_at-pow_other}
use Rattle.std.proofs.Math.Pow.{pow_pos}
use Rattle.hex_cells.specs.Sets.{has, members}
use Rattle.hex_cells.proofs.Bits.{is_one, is_none, has_shr, has_mod}
use Rattle.hex_cells.proofs.Counts.{members_ones, members_none, members_more, members_rise}
use Rattle.hex_cells.proofs.Ranks.{found_at}

-- what `trailing_zeros` says of a word that is not 0
pub least_in : (a : ℕ) → 0 < a → a < 2 ^ 64
    → (trailing_zeros w64 a < 64) × (has a (trailing_zeros w64 a) ≡ true)
    × ((k : ℕ) → k < trailing_zeros w64 a → has a k ≡ false)
unfolding has
least_in a some small =
    let t : (trailing_zeros w64 a < 64) × (bit_at a (trailing_zeros w64 a) ≡ 1)
    × ((i : ℕ) → i < trailing_zeros w64 a → bit_at a i ≡ 0)
    = bit_at-trailing_zeros w64 a some small in
    (t.0, is_one _ t.1, λ k l. is_none _ (t.2 k l))

one_in : (c : ℕ) → c < 64 → 1 * 2 ^ c % 2 ^ 64 ≡ 2 ^ c
one_in c l = let e : 1 * 2 ^ c % 2 ^ 64 ≡ 1 * 2 ^ c = shl_whole 1 1 c 64 (omega arith)
    (omega arith) in omega arith

-- the ones below bit k are the members below k
pub ranked_in : (a k : ℕ) → k < 64 → count_ones (bit_and a (1 * 2 ^ k % 2 ^ 64 - 1)) ≡ members a k
ranked_in a k l = ap (λ (v : ℕ). count_ones (bit_and a (v - 1))) (one_in k l)
    ∙ (ap count_ones (and_mask a k) ∙ sym (members_ones a k))

flip_in : (b x j k : ℕ) → b ≡ 1 → j ≡ k → x ≡ (b + 1) % 2 → (x == 1) ≡ ((b == 1) && not (j == k))
flip_in zero x j k h e f = absurd (omega arith)
flip_in (suc zero) x j k h e f = let g : x ≡ 0 = f in grind (arith, nat_tests)
flip_in (suc (suc b)) x j k h e f = absurd (omega arith)

kept_in : (b x j k : ℕ) → b < 2 → (j ≡ k → ⊥) → x ≡ (b + 0) % 2
    → (x == 1) ≡ ((b == 1) && not (j == k))
kept_in zero x j k h e f = let g : x ≡ 0 = f in grind (arith, nat_tests)
kept_in (suc zero) x j k h e f = let g : x ≡ 1 = f in grind (arith, nat_tests)
kept_in (suc (suc b)) x j k h e f = absurd (omega arith)

of_one : (x : ℕ) → x < 2 → (x == 1) ≡ true → x ≡ 1
of_one x l e = grind (arith, nat_tests)

-- a set bit is turned
pub turned_out : (a k : ℕ) → k < 64 → has a k ≡ true → (j : ℕ)
    → has (bit_xor a (1 * 2 ^ k % 2 ^ 64)) j ≡ (has a j && not (j == k))
unfolding has
turned_out a k l t j =
    let x : bit_at (bit_xor a (2 ^ k)) j ≡ (bit_at a j + bit_at (2 ^ k) j) % 2
    = bit_at_xor a (2 ^ k) j in
    let is : bit_at a k ≡ 1 = of_one (bit_at a k) (bit_at-lt a k) t in
    ap (λ (v : ℕ). bit_at (bit_xor a v) j == 1) (one_in k l)
    ∙ elim (cases_eq j k) [
      | inl e ↦ flip_in (bit_at a j) _ j k (ap (bit_at a) e ∙ is) e
          (x ∙ ap (λ (v : ℕ). (bit_at a j + v) % 2) (ap (bit_at (2 ^ k)) e ∙ bit_at-pow_same k))
      | inr n ↦ kept_in (bit_at a j) _ j k (bit_at-lt a j) n
          (x ∙ ap (λ (v : ℕ). (bit_at a j + v) % 2) (bit_at-pow_other k j n))
    ]

-- ---- the bit with k bits below it

-- it is one of the `width` from `at` on; width is a power of two
pub record Among (half k at width : ℕ) : Type 0 where
  pub power : (j : ℕ) × (width ≡ 2 ^ j)
  pub on : at + width ≤ 64
  pub low : members half at ≤ k
  pub high : k < members half (at + width)

pub among_all : (half k : ℕ) → k < members half 64 → Among half k 0 64
unfolding members
among_all half k l = record { power = (6, refl); on = omega arith; low = omega arith; high = l }

-- a power of two above 1 has two halves
halved : (j width : ℕ) → width ≡ 2 ^ j → 1 < width → ((i : ℕ) × (width / 2 ≡ 2 ^ i))
    × (width ≡ width / 2 + width / 2)
halved zero width e l = absurd (omega (arith, e))
halved (suc j) width e l =
    let d : width ≡ 2 ^ j + 2 ^ j = e ∙ omega arith in
    let h : width / 2 ≡ 2 ^ j = omega (arith, d) in
    ((j, h), omega (arith, d, h))

pub among_upper : (half k at width : ℕ) → Among half k at width → 1 < width
    → members half (at + width / 2) ≤ k → Among half k (at + width / 2) (width / 2)
among_upper half k at width a l m =
    let h = halved a.power.0 width a.power.1 l in
    let e : at + width ≡ at + width / 2 + width / 2 = omega (arith, h.1) in
    record { power = h.0; on = omega (arith, a.on, h.1); low = m; high = subst (λ v. k < members half v) e a.high }

pub among_lower : (half k at width : ℕ) → Among half k at width → 1 < width
    → k < members half (at + width / 2) → Among half k at (width / 2)
among_lower half k at width a l m =
    let h = halved a.power.0 width a.power.1 l in
    record { power = h.0; on = omega (arith, a.on, h.1); low = a.low; high = m }

pub among_one : (half k at width : ℕ) → Among half k at width → (1 < width → ⊥)
    → (has half at ≡ true) × (members half at ≡ k)
among_one half k at width a n = found_at half k at width (some a.power.0 width a.power.1)
    (omega arith) a.low a.high
  where
    some : (j w : ℕ) → w ≡ 2 ^ j → 1 ≤ w
    some j w e = omega (arith, e, pow_pos j)

-- ---- a set by its halves

pub low_members : (s j : ℕ) → j ≤ 64 → members (s % 2 ^ 64) j ≡ members s j
unfolding members
low_members s zero l = refl
low_members s (suc j) l = rw (has_mod s 64 j (omega arith), low_members s j (omega arith)) refl

-- a bit of the upper half, counted
one_more : (s j : ℕ) → has (s / 2 ^ 64) j ≡ has s (64 + j)
one_more s j = let e : j + 64 ≡ 64 + j = omega arith in has_shr s 64 j ∙ ap (has s) e

pub high_members : (s j : ℕ) → members s (64 + j) ≡ members s 64 + members (s / 2 ^ 64) j
high_members s zero = omega (arith, members_none (s / 2 ^ 64))
high_members s (suc j) =
    let e : 64 + suc j ≡ 64 + j + 1 = omega arith in
    let f : suc j ≡ j + 1 = omega arith in
    let one = members_more s (64 + j) in
    let two = members_more (s / 2 ^ 64) j in
    let same : cond {A = ℕ} (has (s / 2 ^ 64) j) 1 0 ≡ cond (has s (64 + j)) 1 0
    = ap (λ b. cond b 1 0) (one_more s j) in
    rw (e, f) (omega (arith, one, two, same, high_members s j))

-- the ones of the lower half
low_ones : (s : ℕ) → count_ones (s % 2 ^ 64) ≡ members s 64
low_ones s = sym (members_ones s 64)

-- the k of a cell in its half: the lower one, or the upper one
pub in_low : (s k : ℕ) → k < count_ones (s % 2 ^ 64) → k < members (s % 2 ^ 64) 64
in_low s k l = omega (arith, l, low_ones s, low_members s 64 (omega arith))

pub in_high : (s k : ℕ) → count_ones (s % 2 ^ 64) ≤ k → k < members s 121
    → k - count_ones (s % 2 ^ 64) < members (s / 2 ^ 64) 64
in_high s k l h =
    let e : members s (64 + 64) ≡ members s 64 + members (s / 2 ^ 64) 64 = high_members s 64 in
    let r : members s 121 ≤ members s (7 + 121) = members_rise s 121 7 in
    omega (arith, e, r, low_ones s)

-- what the bit of a half is in its set
pub found_low : (s i k : ℕ) → i < 64 → has (s % 2 ^ 64) i ≡ true → members (s % 2 ^ 64) i ≡ k
    → (has s i ≡ true) × (members s i ≡ k)
found_low s i k l h m = (sym (has_mod s 64 i l) ∙ h, sym (low_members s i (omega arith)) ∙ m)

pub found_high : (s i k : ℕ) → count_ones (s % 2 ^ 64) ≤ k → has (s / 2 ^ 64) i ≡ true
    → members (s / 2 ^ 64) i ≡ k - count_ones (s % 2 ^ 64) → (has s (64 + i) ≡ true)
    × (members s (64 + i) ≡ k)
found_high s i k l h m = (sym (one_more s i) ∙ h, omega (arith, high_members s i, m, low_ones s))
