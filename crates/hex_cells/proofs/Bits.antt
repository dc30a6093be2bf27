-- The bits of a set, and what each operation does to them.
use Rattle.std.proofs.Common.{◌≡◌, ℕ, ◌+◌, ◌-◌, ◌*◌, ◌/◌, ◌%◌, ◌^◌, ◌<◌, ◌≤◌, ◌==◌, ◌&&◌, ◌||◌, not}
use Rattle.std.proofs.Common.{true, false, Bool, min, max, bit_and, bit_or, bit_xor, refl, sym, ◌∙◌}
use Rattle.std.proofs.Common.{ap, arith, inl, inr, zero, suc}
use Rattle.std.specs.Int.{bit_at, trailing_zeros, w128}
use Rattle.std.proofs.Common.{nat_lt}
use Rattle.std.proofs.lemmas.Bool.Decides.{nat_tests}
use Rattle.std.proofs.lemmas.Bool.{cases_lt, cases_eq, both_ways}
use Rattle.std.proofs.lemmas.Nat.Bits.{bit_at_or, bit_at_and, bit_at-lt, bit_at-zero, bit_at_above}
use Rattle.std.proofs.lemmas.Nat.Bits.{bit_at_not, shr_and_one, bit_at-trailing_zeros}
use Rattle.std.proofs.lemmas.Nat.Bits.{bit_at_cat_low, bit_at_cat_high, bit_at_ones}
use Rattle.std.proofs.lemmas.Nat.Bits.{bit_at_ones_above, same_from_bits, bit_at_xor}
use Rattle.std.proofs.lemmas.Nat.Bits.{bit_at-pow_same, bit_at-pow_other}
use Rattle.std.proofs.lemmas.Nat.{div-add-mod', shl_whole, mod_below}
use Rattle.std.proofs.Math.Nat.{div-div-eq-div-mul}
use Rattle.std.proofs.Common.{pow-add, add-zero}
use Rattle.std.proofs.Math.Nat.{add_comm}
use Rattle.std.proofs.Math.Pow.{pow_mono, pow_pos}
use Rattle.std.proofs.lemmas.Nat.{or_lt, le_or_l}
use Rattle.hex_cells.specs.Sets.{has, without_cell, without_cells}

max_one : (x y : ℕ) → x < 2 → y < 2 → (max x y == 1) ≡ (x == 1 || y == 1)
max_one x y hx hy = grind (arith, nat_tests)

min_one : (x y : ℕ) → x < 2 → y < 2 → (min x y == 1) ≡ (x == 1 && y == 1)
min_one x y hx hy = grind (arith, nat_tests)

pub has_none : (k : ℕ) → has 0 k ≡ false
unfolding has
has_none k = rw bit_at-zero refl

pub has_or : (a b k : ℕ) → has (bit_or a b) k ≡ (has a k || has b k)
unfolding has
has_or a b k = rw bit_at_or (max_one _ _ (bit_at-lt a k) (bit_at-lt b k))

pub has_and : (a b k : ℕ) → has (bit_and a b) k ≡ (has a k && has b k)
unfolding has
has_and a b k = rw bit_at_and (min_one _ _ (bit_at-lt a k) (bit_at-lt b k))

pub has_above : (a n k : ℕ) → a < 2 ^ n → n ≤ k → has a k ≡ false
unfolding has
has_above a n k h i = rw (bit_at_above a n k h i) refl

not_one : (x y : ℕ) → x < 2 → y ≡ 1 - x → (y == 1) ≡ not (x == 1)
not_one x y hx e = grind (arith, nat_tests)

pub has_not : (a k : ℕ) → a < 2 ^ 128 → k < 128 → has (2 ^ 128 - 1 - a) k ≡ not (has a k)
unfolding has
has_not a k h i = not_one _ _ (bit_at-lt a k) (bit_at_not w128 a k h i)

pub has_minus : (a b k : ℕ) → a < 2 ^ 121 → b < 2 ^ 121
    → has (bit_and a (2 ^ 128 - 1 - b)) k ≡ (has a k && not (has b k))
has_minus a b k ha hb = has_and a (2 ^ 128 - 1 - b) k
    ∙ (elim (cases_lt k 128) [
      | inl h ↦ ap (λ v. has a k && v) (has_not b k (omega arith) h)
      | inr h ↦ let e : has a k
          ≡ false = has_above a 121 k ha (omega arith) in rw e refl
    ])

apart : (x : ℕ) → x ≡ 1 → x ≡ 0 → ⊥
apart x e f = omega arith

pub is_one : (x : ℕ) → x ≡ 1 → (x == 1) ≡ true
is_one x e = rw e refl

pub is_none : (x : ℕ) → x ≡ 0 → (x == 1) ≡ false
is_none x e = rw e refl

pub has_test : (a k : ℕ) → (bit_and (a / 2 ^ k) 1 == 1) ≡ has a k
unfolding has
has_test a k = ap (λ v. v == 1) (shr_and_one a k)

pub or_below : (a b : ℕ) → a < 2 ^ 121 → b < 2 ^ 121 → bit_or a b < 2 ^ 121
or_below a b ha hb = or_lt 121 a b ha hb

-- what `trailing_zeros` says of a set that is not empty
pub least_of : (a : ℕ) → 0 < a → a < 2 ^ 121 → (trailing_zeros w128 a < 121)
    × (has a (trailing_zeros w128 a) ≡ true)
    × ((k : ℕ) → k < trailing_zeros w128 a → has a k ≡ false)
unfolding has
least_of a p h =
    let t : (trailing_zeros w128 a < 128) × (bit_at a (trailing_zeros w128 a) ≡ 1)
    × ((i : ℕ) → i < trailing_zeros w128 a → bit_at a i ≡ 0)
    = bit_at-trailing_zeros w128 a p (omega arith) in (
      elim (cases_lt (trailing_zeros w128 a) 121) [ inl l ↦ l | inr g ↦ absurd (apart _ t.1 (bit_at_above a 121 (trailing_zeros w128 a) h g)) ],
      is_one _ t.1,
      λ k l. is_none _ (t.2 k l),
    )

pub has_shr : (a j k : ℕ) → has (a / 2 ^ j) k ≡ has a (k + j)
unfolding has
has_shr a j k = let e : a / 2 ^ j / 2 ^ k ≡ a / 2 ^ (k + j) = div-div-eq-div-mul a (2 ^ j) (2 ^ k)
    ∙ ap (λ v. a / v) (sym (pow-add 2 j k) ∙ ap (λ v. 2 ^ v) (add_comm j k)) in
    ap (λ v. v % 2 == 1) e

pub has_mod : (a w k : ℕ) → k < w → has (a % 2 ^ w) k ≡ has a k
unfolding has
has_mod a w k h
    = ap (λ v. v == 1)
    (sym (bit_at_cat_low (a / 2 ^ w) w (a % 2 ^ w) k h) ∙ ap (λ v. bit_at v k) (div-add-mod' a (2 ^ w)))

past : (x y : Bool) (k j : ℕ) → k < j → x ≡ false → x ≡ (not (nat_lt k j) && y)
past x y k j h e = grind (arith, nat_tests)

within : (x y : Bool) (k j : ℕ) → j ≤ k → x ≡ y → x ≡ (not (nat_lt k j) && y)
within x y k j h e = grind (arith, nat_tests)

shl_low : (a j k : ℕ) → k < j → has (a * 2 ^ j) k ≡ false
unfolding has
shl_low a j k h = let e : bit_at (a * 2 ^ j + 0) k ≡ 0 = bit_at_cat_low a j 0 k h ∙ bit_at-zero k in
    is_none _ (rw (add-zero (a * 2 ^ j)) at e)

shl_high : (a j k : ℕ) → j ≤ k → has (a * 2 ^ j) k ≡ has a (k - j)
unfolding has
shl_high a j k h = let e : bit_at (a * 2 ^ j + 0) k ≡ bit_at a (k - j) = bit_at_cat_high a j 0 k
    (pow_pos j) h in ap (λ v. v == 1) (rw (add-zero (a * 2 ^ j)) at e)

pub has_shl : (a j k : ℕ) → has (a * 2 ^ j) k ≡ (not (nat_lt k j) && has a (k - j))
has_shl a j k
    = elim (cases_lt k j) [ inl h ↦ past _ _ k j h (shl_low a j k h) | inr h ↦ within _ _ k j h (shl_high a j k h) ]

swapped : (x y : Bool) → (x && y) ≡ (y && x)
swapped true true = refl
swapped true false = refl
swapped false true = refl
swapped false false = refl

off : (x y z : Bool) → y ≡ false → (x && y) ≡ (y && z)
off x y z e = rw (e) (swapped x false)

pub has_up : (a b j k : ℕ) → b < 2 ^ 121
    → has (bit_and (a * 2 ^ j % 2 ^ 128) b) k ≡ (has b k && (not (nat_lt k j) && has a (k - j)))
has_up a b j k hb = has_and (a * 2 ^ j % 2 ^ 128) b k ∙ elim (cases_lt k 128) [
  | inl h ↦ ap (λ v. v && has b k) (has_mod (a * 2 ^ j) 128 k h ∙ has_shl a j k)
      ∙ swapped (not (nat_lt k j) && has a (k - j)) (has b k)
  | inr h ↦ off (has (a * 2 ^ j % 2 ^ 128) k) (has b k) (not (nat_lt k j) && has a (k - j))
      (has_above b 121 k hb (omega arith))
]

pub one_shl : (m : ℕ) → m ≤ 121 → 1 * 2 ^ m % 2 ^ 128 ≡ 2 ^ m
one_shl m h = let e : 1 * 2 ^ m % 2 ^ 128 ≡ 1 * 2 ^ m = shl_whole 1 1 m 128 (omega arith)
    (omega arith) in omega arith

pub all_below : (m : ℕ) → m ≤ 121 → 1 * 2 ^ m % 2 ^ 128 - 1 < 2 ^ 121
all_below m h = let e : 1 * 2 ^ m % 2 ^ 128 ≡ 2 ^ m = one_shl m h in
    let f : 2 ^ m ≤ 2 ^ 121 = pow_mono h in let g : 0 < 2 ^ m = pow_pos m in omega arith

lt_is : (x : Bool) (k m : ℕ) → k < m → x ≡ true → x ≡ nat_lt k m
lt_is x k m h e = grind (arith, nat_tests)

ge_is : (x : Bool) (k m : ℕ) → m ≤ k → x ≡ false → x ≡ nat_lt k m
ge_is x k m h e = grind (arith, nat_tests)

has_ones : (m k : ℕ) → has (2 ^ m - 1) k ≡ nat_lt k m
unfolding has
has_ones m k
    = elim (cases_lt k m) [ inl h ↦ lt_is _ k m h (is_one _ (bit_at_ones m k h)) | inr h ↦ ge_is _ k m h (is_none _ (bit_at_ones_above m k h)) ]

pub has_all : (m k : ℕ) → m ≤ 121 → has (1 * 2 ^ m % 2 ^ 128 - 1) k ≡ nat_lt k m
has_all m k h = let e : 1 * 2 ^ m % 2 ^ 128 ≡ 2 ^ m = one_shl m h in rw e (has_ones m k)

gone : (x y : Bool) → false ≡ (x && not y) → x ≡ true → y ≡ true
gone x true e f = refl
gone true false e f = e
gone false false e f = f

pub inside_out : (a b k : ℕ) → a < 2 ^ 121 → b < 2 ^ 121 → bit_and a (2 ^ 128 - 1 - b) ≡ 0
    → has a k ≡ true → has b k ≡ true
inside_out a b k ha hb e h
    = gone (has a k) (has b k)
    (sym (has_none k) ∙ (ap (λ v. has v k) (sym e) ∙ has_minus a b k ha hb)) h

kept : (x y : Bool) → (x ≡ true → y ≡ true) → (x && not y) ≡ false
kept true true f = refl
kept true false f = sym (f refl)
kept false y f = refl

bit_false : (a k : ℕ) → has a k ≡ false → bit_at a k ≡ 0
unfolding has
bit_false a k e = let l : bit_at a k < 2 = bit_at-lt a k in grind (arith, nat_tests)

pub inside_in : (a b : ℕ) → a < 2 ^ 121 → b < 2 ^ 121 → ((k : ℕ) → has a k ≡ true → has b k ≡ true)
    → bit_and a (2 ^ 128 - 1 - b) ≡ 0
inside_in a b ha hb f
    = same_from_bits _ 0
    (λ k. bit_false _ k (has_minus a b k ha hb ∙ kept (has a k) (has b k) (f k)) ∙ sym (bit_at-zero k))

pub all_value : (m : ℕ) → m ≤ 121 → 1 * 2 ^ m % 2 ^ 128 - 1 ≡ 2 ^ m - 1
all_value m h = ap (λ v. v - 1) (one_shl m h)

bit_of_test : (x y : ℕ) → x < 2 → y < 2 → (x == 1) ≡ (y == 1) → x ≡ y
bit_of_test x y hx hy e = grind (arith, nat_tests)

-- two sets with the same cells are the same number
pub same_set : (a b : ℕ) → ((k : ℕ) → has a k ≡ has b k) → a ≡ b
unfolding has
same_set a b e = same_from_bits a b (λ k. bit_of_test _ _ (bit_at-lt a k) (bit_at-lt b k) (e k))

cut_same : (x y : Bool) (k m : ℕ) → (x ≡ true → k < m) → (k < m → y ≡ x)
    → (m ≤ k → y ≡ false) → x ≡ y
cut_same true y k m f g h = sym (g (f refl))
cut_same false y k m f g h = elim (cases_lt k m) [ inl l ↦ sym (g l) | inr l ↦ sym (h l) ]

-- a set whose cells are all below m is a number below 2 ^ m
pub below_from_items : (s m : ℕ) → ((k : ℕ) → has s k ≡ true → k < m) → s < 2 ^ m
below_from_items s m f =
    let b : s % 2 ^ m < 2 ^ m = mod_below s (2 ^ m) (pow_pos m) in
    let e : s ≡ s % 2 ^ m
    = same_set s (s % 2 ^ m)
    (λ k. cut_same (has s k) (has (s % 2 ^ m) k) k m (f k) (has_mod s m k) (λ l. has_above (s % 2 ^ m) m k b l)) in
    omega arith

flip_at : (b x j k : ℕ) → b < 2 → j ≡ k → x ≡ (b + 1) % 2
    → ((b == 1) && (x == 1)) ≡ ((b == 1) && not (j == k))
flip_at zero x j k h e f = refl
flip_at (suc zero) x j k h e f = let g : x ≡ 0 = f in grind (arith, nat_tests)
flip_at (suc (suc b)) x j k h e f = absurd (omega arith)

kept_at : (b x j k : ℕ) → b < 2 → (j ≡ k → ⊥) → x ≡ (b + 0) % 2
    → ((b == 1) && (x == 1)) ≡ ((b == 1) && not (j == k))
kept_at zero x j k h e f = refl
kept_at (suc zero) x j k h e f = let g : x ≡ 1 = f in grind (arith, nat_tests)
kept_at (suc (suc b)) x j k h e f = absurd (omega arith)

pub has_without : (s k j : ℕ) → has (without_cell s k) j ≡ (has s j && not (j == k))
unfolding has
has_without s k j =
    let x : bit_at (bit_xor s (2 ^ k)) j ≡ (bit_at s j + bit_at (2 ^ k) j) % 2
    = bit_at_xor s (2 ^ k) j in
    let r : ((bit_at s j == 1) && (bit_at (bit_xor s (2 ^ k)) j == 1)) ≡ ((bit_at s j == 1) && not (j == k)) = elim (cases_eq j k) [
      | inl e ↦ flip_at _ _ j k (bit_at-lt s j) e
          (x ∙ ap (λ v. (bit_at s j + v) % 2) (ap (λ v. bit_at (2 ^ k) v) e ∙ bit_at-pow_same k))
      | inr n ↦ kept_at _ _ j k (bit_at-lt s j) n
          (x ∙ ap (λ v. (bit_at s j + v) % 2) (bit_at-pow_other k j n))
    ] in
    has_and s (bit_xor s (2 ^ k)) j ∙ r

differ_at : (b x y : ℕ) → b < 2 → y < 2 → x ≡ (b + y) % 2
    → ((b == 1) && (x == 1)) ≡ ((b == 1) && not (y == 1))
differ_at zero x y h g e = refl
differ_at (suc zero) x zero h g e = let f : x ≡ 1 = e in grind (arith, nat_tests)
differ_at (suc zero) x (suc zero) h g e = let f : x ≡ 0 = e in grind (arith, nat_tests)
differ_at (suc zero) x (suc (suc y)) h g e = absurd (omega arith)
differ_at (suc (suc b)) x y h g e = absurd (omega arith)

pub has_without_cells : (s t k : ℕ) → has (without_cells s t) k ≡ (has s k && not (has t k))
unfolding has
has_without_cells s t k = has_and s (bit_xor s t) k
    ∙ differ_at (bit_at s k) _ (bit_at t k) (bit_at-lt s k) (bit_at-lt t k) (bit_at_xor s t k)

-- a cell of a set below 2 ^ w is below w
pub cell_below : (s w k : ℕ) → s < 2 ^ w → has s k ≡ true → k < w
cell_below s w k h e
    = elim (cases_lt k w) [ inl l ↦ l | inr g ↦ absurd (both_ways (has s k) (has_above s w k h g) e) ]

pub same_out : (a : Bool) (c : ℕ) → (a && not (c == c)) ≡ false
same_out a c = grind (arith, nat_tests)

-- a set with a cell less is a lesser number
pub cleared_less : (a b c : ℕ) → b ≤ a → has b c ≡ (has a c && not (c == c))
    → has a c ≡ true → b < a
cleared_less a b c l e h = elim (cases_eq b a) [
  | inl q ↦ absurd (both_ways (has a c) (ap (λ v. has v c) (sym q) ∙ (e ∙ same_out (has a c) c)) h)
  | inr n ↦ omega arith
]

-- a without the bits of b, in two ways
pub minus_value : (a b : ℕ) → a < 2 ^ 121 → b < 2 ^ 121
    → bit_and a (2 ^ 128 - 1 - b) ≡ without_cells a b
minus_value a b ha hb = same_set (bit_and a (2 ^ 128 - 1 - b)) (without_cells a b)
    (λ k. has_minus a b k ha hb ∙ sym (has_without_cells a b k))

-- what `CellSet::union` is proved from
pub ruleset union_rules = (has_or, or_below, le_or_l)
