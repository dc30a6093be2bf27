-- A set with one cell more: its cells and their number.
use Rattle.std.proofs.Common.{◌≡◌, ℕ, ◌+◌, ◌^◌, ◌<◌, ◌≤◌, ◌==◌, ◌||◌, ◌⊎◌, true, false, Bool, cond}
use Rattle.std.proofs.Common.{refl, sym, ◌∙◌, ap, arith, inl, inr, zero, suc}
use Rattle.std.proofs.lemmas.Bool.{cases_eq, or_cases, or_left, or_right, eq-eqb, eqb-true, ne_eqb}
use Rattle.std.proofs.lemmas.Bool.Decides.{nat_tests}
use Rattle.std.proofs.lemmas.Nat.Bits.{bit_at-pow_same, bit_at-pow_other}
use Rattle.std.specs.Int.{bit_at}
use Rattle.hex_cells.specs.Sets.{has, members, with_cell}
use Rattle.hex_cells.proofs.Bits.{has_or}
use Rattle.hex_cells.proofs.Counts.{members_apart}

-- the set of one cell
pub has_pow : (c k : ℕ) → has (2 ^ c) k ≡ (k == c)
unfolding has
has_pow c k = elim (cases_eq k c) [
  | inl e ↦ ap (λ v. v == 1) (ap (bit_at (2 ^ c)) e ∙ bit_at-pow_same c) ∙ sym (eq-eqb k c e)
  | inr n ↦ ap (λ v. v == 1) (bit_at-pow_other c k n) ∙ sym (ne_eqb k c n)
]

pub has_with_cell : (s c k : ℕ) → has (with_cell s c) k ≡ (has s k || k == c)
has_with_cell s c k = has_or s (2 ^ c) k ∙ ap (λ b. has s k || b) (has_pow c k)

-- two numbers are compared in either order
pub same_eq : (j k : ℕ) → (j == k) ≡ (k == j)
same_eq j k = grind (arith, nat_tests)

pub with_cell-here : (s c : ℕ) → has (with_cell s c) c ≡ true
with_cell-here s c = has_with_cell s c c ∙ or_right (has s c) (c == c) (eq-eqb c c refl)

pub with_cell-keeps : (s c k : ℕ) → has s k ≡ true → has (with_cell s c) k ≡ true
with_cell-keeps s c k h = has_with_cell s c k ∙ or_left (has s k) (k == c) h

-- a cell of the set with c is one of the set, or it is c
pub with_cell-cases : (s c k : ℕ) → has (with_cell s c) k ≡ true → (has s k ≡ true) ⊎ (k ≡ c)
with_cell-cases s c k h = elim (or_cases (has s k) (k == c) (sym (has_with_cell s c k) ∙ h)) [
  | inl e ↦ inl e
  | inr e ↦ inr (eqb-true k c e)
]

-- ---- how many there are

same_at : (x y : Bool) (i c : ℕ) → i < c → x ≡ (y || i == c) → x ≡ y
same_at x y i c h e = grind (arith, nat_tests)

same_past : (x y : Bool) (i c : ℕ) → c < i → x ≡ (y || i == c) → x ≡ y
same_past x y i c h e = grind (arith, nat_tests)

there : (x y : Bool) (i c : ℕ) → i ≡ c → x ≡ (y || i == c) → x ≡ true
there x y i c h e = grind (arith, nat_tests)

-- below the new cell nothing changes
members_same : (s t c j : ℕ) → ((i : ℕ) → has t i ≡ (has s i || i == c)) → j ≤ c
    → members t j ≡ members s j
unfolding members
members_same s t c zero e h = refl
members_same s t c (suc j) e h =
    let m : members t j ≡ members s j = members_same s t c j e (omega arith) in
    let x : has t j ≡ has s j = same_at (has t j) (has s j) j c (omega arith) (e j) in
    rw (m, x) refl

at_new : (x y : Bool) (m n : ℕ) → x ≡ true → y ≡ false → m ≡ n
    → cond {A = ℕ} x 1 0 + m ≡ cond {A = ℕ} y 1 0 + n + 1
at_new x y m n e f h = rw (e, f, h) (omega arith)

past_new : (x y : Bool) (m n : ℕ) → x ≡ y → m ≡ n + 1
    → cond {A = ℕ} x 1 0 + m ≡ cond {A = ℕ} y 1 0 + n + 1
past_new x y m n e h = rw (e, h) (omega arith)

-- a new cell is one member more
members_grown : (s t c j : ℕ) → ((i : ℕ) → has t i ≡ (has s i || i == c)) → has s c ≡ false → c < j
    → members t j ≡ members s j + 1
unfolding members
members_grown s t c zero e f h = absurd (omega arith)
members_grown s t c (suc j) e f h = elim (cases_eq j c) [
  | inl w ↦ at_new (has t j) (has s j) (members t j) (members s j)
      (there (has t j) (has s j) j c w (e j)) (ap (has s) w ∙ f)
      (members_same s t c j e (omega arith))
  | inr w ↦ let l : c < j = omega arith in past_new (has t j) (has s j) (members t j) (members s j)
      (same_past (has t j) (has s j) j c l (e j)) (members_grown s t c j e f l)
]

pub members_with_cell : (s c j : ℕ) → has s c ≡ false → c < j
    → members (with_cell s c) j ≡ members s j + 1
members_with_cell s c j f l = members_grown s (with_cell s c) c j (has_with_cell s c) f l

-- a set with a cell in it has a member
pub members_some : (s c j : ℕ) → has s c ≡ true → c < j → 1 ≤ members s j
members_some s c j h l = omega (arith, members_apart s c j h l)
