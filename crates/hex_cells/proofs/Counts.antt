-- How many cells of a set lie below a number.
use Rattle.std.proofs.Common.{◌≡◌, ℕ, ◌+◌, ◌*◌, ◌/◌, ◌%◌, ◌^◌, ◌<◌, ◌≤◌, ◌==◌, zero, suc, true}
use Rattle.std.proofs.Common.{false, Bool, cond, refl, sym, ◌∙◌, ap, arith, add-one, inl, inr}
use Rattle.std.proofs.Common.{zero-add, ◌-◌}
use Rattle.std.proofs.Math.Nat.{suc-add}
use Rattle.std.specs.Prelude.{count_ones}
use Rattle.std.specs.List.{count_by, range_with_len}
use Rattle.std.proofs.lemmas.List.Sums.{sum_by-cons}
use Rattle.std.proofs.lemmas.Bool.{cases_eq}
use Rattle.std.proofs.lemmas.Nat.{ones_cat, mod-pow-add, mod_below}
use Rattle.std.proofs.lemmas.Nat.Bits.{bit_at-lt}
use Rattle.std.proofs.Math.Pow.{pow_pos}
use Rattle.std.proofs.Math.Nat.{mod-eq_of_lt, mod-one}
use Rattle.hex_cells.specs.Sets.{has, members}

pub members_none : (s : ℕ) → members s 0 ≡ 0
unfolding members
members_none s = refl

pub members_more : (s j : ℕ) → members s (j + 1) ≡ cond (has s j) 1 0 + members s j
unfolding members
members_more s j = rw add-one refl

one_bit : (b : ℕ) → b < 2 → count_ones b ≡ cond (b == 1) 1 0
unfolding lib.Count.ones
one_bit zero h = refl
one_bit (suc zero) h = refl
one_bit (suc (suc b)) h = absurd (omega arith)

pub members_ones : (s j : ℕ) → members s j ≡ count_ones (s % 2 ^ j)
unfolding members has lib.Count.ones
members_ones s zero = rw (mod-one s) refl
members_ones s (suc j) =
    let e : s % 2 ^ (1 + j) ≡ (s / 2 ^ j % 2 ^ 1) * 2 ^ j + s % 2 ^ j = mod-pow-add s 1 j in
    let f : count_ones ((s / 2 ^ j % 2 ^ 1) * 2 ^ j + s % 2 ^ j) ≡ count_ones
    (s / 2 ^ j % 2 ^ 1) + count_ones (s % 2 ^ j)
    = ones_cat j (s / 2 ^ j % 2 ^ 1) (s % 2 ^ j) (mod_below s (2 ^ j) (pow_pos j)) in
    let g : s % 2 ^ (suc j) ≡ s % 2 ^ (1 + j) = ap (λ v. s % 2 ^ v) (omega arith) in
    ap (λ v. v + members s j) (sym (one_bit (s / 2 ^ j % 2) (bit_at-lt s j)))
    ∙ (ap (λ v. count_ones (s / 2 ^ j % 2 ^ 1) + v) (members_ones s j) ∙ (sym f ∙ ap count_ones (sym e ∙ sym g)))

pub members_all : (s : ℕ) → s < 2 ^ 121 → members s 121 ≡ count_ones s
members_all s h = members_ones s 121 ∙ ap count_ones (mod-eq_of_lt h)

bit_small : (b : Bool) → cond {A = ℕ} b 1 0 ≤ 1
bit_small true = omega arith
bit_small false = omega arith

pub members_few : (s j : ℕ) → members s j ≤ j
unfolding members
members_few s zero = omega arith
members_few s (suc j) = omega (arith, members_few s j, bit_small (has s j))

-- over d more cells the count does not fall
pub members_rise : (s i d : ℕ) → members s i ≤ members s (d + i)
unfolding members
members_rise s i zero = rw zero-add (omega arith)
members_rise s i (suc d) = rw suc-add (omega (arith, members_rise s i d))

pub bit_of : (b : Bool) → b ≡ true → cond {A = ℕ} b 1 0 ≡ 1
bit_of b e = rw e refl

-- past a cell of the set it rises
pub members_apart : (s i j : ℕ) → has s i ≡ true → i < j → members s i < members s j
members_apart s i j h l =
    let r : members s (i + 1) ≤ members s ((j - (i + 1)) + (i + 1))
    = members_rise s (i + 1) (j - (i + 1)) in
    let e : (j - (i + 1)) + (i + 1) ≡ j = omega arith in
    let q : members s (i + 1) ≤ members s j = rw e at r in
    omega (arith, members_more s i, bit_of (has s i) h)

bit_mono : (x y : Bool) → (x ≡ true → y ≡ true) → cond {A = ℕ} x 1 0 ≤ cond {A = ℕ} y 1 0
bit_mono false y f = omega arith
bit_mono true y f = rw (f refl) (omega arith)

-- a part of a set has no more cells
pub members_sub : (t s j : ℕ) → ((k : ℕ) → has t k ≡ true → has s k ≡ true)
    → members t j ≤ members s j
unfolding members
members_sub t s zero f = omega arith
members_sub t s (suc j) f = omega (arith, members_sub t s j f, bit_mono (has t j) (has s j) (f j))

no_bit : (x : Bool) → x ≡ false → cond {A = ℕ} x 1 0 ≡ 0
no_bit x e = rw e refl

-- and fewer if a cell is left out
pub members_less : (t s x j : ℕ) → ((k : ℕ) → has t k ≡ true → has s k ≡ true) → has s x ≡ true
    → has t x ≡ false → x < j → members t j < members s j
unfolding members
members_less t s x zero f h e l = absurd (omega arith)
members_less t s x (suc j) f h e l = elim (cases_eq x j) [
  | inl q ↦ omega (arith, members_sub t s j f, bit_of (has s j) (ap (λ v. has s v) (sym q) ∙ h), no_bit (has t j) (ap (λ v. has t v) (sym q) ∙ e))
  | inr n ↦ omega (arith, members_less t s x j f h e (omega arith), bit_mono (has t j) (has s j) (f j))
]

-- ---- a set whose cells pass a test

plus_none : (a : ℕ) → a + 0 ≡ a
plus_none a = omega arith

swapped : (x y z : ℕ) → (x + y) + z ≡ y + (x + z)
swapped x y z = omega arith

pub members_from : (s : ℕ) (p : ℕ → Bool) (a m : ℕ) → ((k : ℕ) → has s k ≡ p k)
    → members s (a + m) ≡ members s a + count_by p (range_with_len a m)
members_from s p a zero f = ap (λ v. members s v) (plus_none a) ∙ sym (plus_none (members s a))
members_from s p a (suc m) f =
    let e : a + suc m ≡ (a + 1) + m = omega arith in
    let r : members s ((a + 1) + m) ≡ members s (a + 1) + count_by p (range_with_len (a + 1) m)
    = members_from s p (a + 1) m f in
    let t : members s (a + 1) ≡ cond (p a) 1 0 + members s a = members_more s a
    ∙ ap (λ v. cond v 1 0 + members s a) (f a) in
    ap (λ v. members s v) e
    ∙ (r ∙ (ap (λ v. v + count_by p (range_with_len (a + 1) m)) t ∙ (swapped (cond (p a) 1 0) (members s a) (count_by p (range_with_len (a + 1) m))
    ∙ ap (λ v. members s a + v)
    (sym (sum_by-cons (λ x. cond (p x) 1 0) a (range_with_len (a + 1) m))))))

-- its members are those that pass
pub members_test : (s : ℕ) (p : ℕ → Bool) (m : ℕ) → ((k : ℕ) → has s k ≡ p k)
    → members s m ≡ count_by p (range_with_len 0 m)
members_test s p m f = let e : 0 + m ≡ m = omega arith in
    ap (λ v. members s v) (sym e)
    ∙ (members_from s p 0 m f ∙ (ap (λ v. v + count_by p (range_with_len 0 m)) (members_none s) ∙ zero-add (count_by p (range_with_len 0 m))))

-- past the last cell of a set the count stays
pub members_flat : (s m d : ℕ) → ((k : ℕ) → m ≤ k → has s k ≡ false)
    → members s (m + d) ≡ members s m
unfolding members
members_flat s m zero f = ap (members s) (plus_none m)
members_flat s m (suc d) f =
    let e : m + suc d ≡ suc (m + d) = omega arith in
    ap (members s) e
    ∙ (ap (λ v. v + members s (m + d)) (no_bit (has s (m + d)) (f (m + d) (omega arith))) ∙ (zero-add (members s (m + d)) ∙ members_flat s m d f))
