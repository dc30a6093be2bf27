-- Sums over the cells of a set, up to the first at which a test passes.
use Rattle.std.proofs.Common.{◌≡◌, ℕ, ◌+◌, ◌<◌, ◌≤◌, ◌==◌, ◌&&◌, not, true, false, Bool}
use Rattle.std.proofs.Common.{if◌then◌else◌, refl, sym, ◌∙◌, ap, zero, suc, arith, inl, inr}
use Rattle.std.specs.List.{range_with_len}
use Rattle.std.proofs.lemmas.Bool.{cases_eq, false≢true, true≢false}
use Rattle.hex_cells.specs.Sets.{has, without_cell}
use Rattle.hex_cells.proofs.Bits.{has_without, same_out}
use Rattle.hex_solve.specs.Deciding.{sum_up_to}

step_same : (e t u : Bool) (x y v w : ℕ) → (e ≡ true → t ≡ u) → (e ≡ true → x ≡ y) → v ≡ w
    → (if e then (if t then x else x + v) else v) ≡ (if e then (if u then y else y + w) else w)
step_same true t u x y v w f g h = ap (λ b. if b then x else x + v) (f refl)
    ∙ (ap (λ z. if u then z else z + v) (g refl) ∙ ap (λ z. if u then y else y + z) h)
step_same false t u x y v w f g h = h

pub sum_same : (empty t u : ℕ → Bool) (f g : ℕ → ℕ) (a m : ℕ)
    → ((k : ℕ) → empty k ≡ true → t k ≡ u k) → ((k : ℕ) → empty k ≡ true → f k ≡ g k)
    → sum_up_to empty t f (range_with_len a m) ≡ sum_up_to empty u g (range_with_len a m)
sum_same empty t u f g a zero p q = refl
sum_same empty t u f g a (suc m) p q
    = step_same (empty a) (t a) (u a) (f a) (g a) (sum_up_to empty t f (range_with_len (a + 1) m))
    (sum_up_to empty u g (range_with_len (a + 1) m)) (p a) (q a)
    (sum_same empty t u f g (a + 1) m p q)

set_step : (d e t : Bool) (x v w : ℕ) → d ≡ e → v ≡ w
    → (if d then (if t then x else x + v) else v) ≡ (if e then (if t then x else x + w) else w)
set_step d e t x v w p q = ap (λ b. if b then (if t then x else x + v) else v) p
    ∙ ap (λ z. if e then (if t then x else x + z) else z) q

pub sum_cells : (d e t : ℕ → Bool) (f : ℕ → ℕ) (a m : ℕ) → ((k : ℕ) → a ≤ k → d k ≡ e k)
    → sum_up_to d t f (range_with_len a m) ≡ sum_up_to e t f (range_with_len a m)
sum_cells d e t f a zero p = refl
sum_cells d e t f a (suc m) p
    = set_step (d a) (e a) (t a) (f a) (sum_up_to d t f (range_with_len (a + 1) m))
    (sum_up_to e t f (range_with_len (a + 1) m)) (p a (omega arith))
    (sum_cells d e t f (a + 1) m (λ k l. p k (omega arith)))

sum_none_step : (e t : Bool) (x v : ℕ) → e ≡ false → (if e then (if t then x else x + v) else v) ≡ v
sum_none_step true t x v h = absurd (true≢false h)
sum_none_step false t x v h = refl

sum_one_step : (e t : Bool) (x v : ℕ) → e ≡ true
    → (if e then (if t then x else x + v) else v) ≡ (if t then x else x + v)
sum_one_step true t x v h = refl
sum_one_step false t x v h = absurd (false≢true h)

pub sum_none : (e t : ℕ → Bool) (f : ℕ → ℕ) (a m : ℕ) → ((k : ℕ) → e k ≡ false)
    → sum_up_to e t f (range_with_len a m) ≡ 0
sum_none e t f a zero p = refl
sum_none e t f a (suc m) p
    = sum_none_step (e a) (t a) (f a) (sum_up_to e t f (range_with_len (a + 1) m)) (p a)
    ∙ sum_none e t f (a + 1) m p

without_that : (b : Bool) (k c : ℕ) → (k ≡ c → ⊥) → (b && not (k == c)) ≡ b
without_that b k c n = grind arith

-- the least cell of the set comes first
pub sum_least : (s c : ℕ) (t : ℕ → Bool) (f : ℕ → ℕ) (a m : ℕ) → a ≤ c → c < a + m → has s c ≡ true
    → ((k : ℕ) → k < c → has s k ≡ false)
    → sum_up_to (has s) t f
    (range_with_len a m) ≡ (if t c then f c else f c + sum_up_to (has (without_cell s c)) t f (range_with_len a m))
sum_least s c t f a zero l h i n = absurd (omega arith)
sum_least s c t f a (suc m) l h i n = elim (cases_eq a c) [
  | inl e ↦
      let rest = sum_up_to (has s) t f (range_with_len (a + 1) m) in
      let after = sum_up_to (has (without_cell s c)) t f (range_with_len (a + 1) m) in
      let gone : has (without_cell s c) a ≡ false = has_without s c a
      ∙ (ap (λ v. has s a && not (v == c)) e ∙ same_out (has s a) c) in
      let same : rest ≡ after = sum_cells (has s) (has (without_cell s c)) t f (a + 1) m
      (λ k g. sym (has_without s c k ∙ without_that (has s k) k c (λ q. absurd (omega arith)))) in
      sum_one_step (has s a) (t a) (f a) rest (ap (has s) e ∙ i)
      ∙ (ap (λ v. if t v then f v else f v + rest) e
      ∙ (ap (λ v. if t c then f c else f c + v) same
      ∙ ap (λ v. if t c then f c else f c + v)
      (sym (sum_none_step (has (without_cell s c) a) (t a) (f a) after gone))))
  | inr d ↦
      let rest = sum_up_to (has s) t f (range_with_len (a + 1) m) in
      let after = sum_up_to (has (without_cell s c)) t f (range_with_len (a + 1) m) in
      let none : has s a ≡ false = n a (omega arith) in
      let gone : has (without_cell s c) a ≡ false = has_without s c a
      ∙ (without_that (has s a) a c d ∙ none) in
      sum_none_step (has s a) (t a) (f a) rest none
      ∙ (sum_least s c t f (a + 1) m (omega arith) (omega arith) i n
      ∙ ap (λ v. if t c then f c else f c + v)
      (sym (sum_none_step (has (without_cell s c) a) (t a) (f a) after gone)))
]
