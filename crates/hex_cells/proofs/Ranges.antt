-- The first number of a range that passes a test.
use Rattle.std.proofs.Common.{◌≡◌, ℕ, ◌+◌, ◌<◌, ◌≤◌, Bool, true, false, Some, None, refl, sym, ap}
use Rattle.std.proofs.Common.{subst, arith, inl, inr, zero, suc}
use Rattle.std.specs.List.{find, range_with_len}
use Rattle.std.proofs.lemmas.Bool.{cases_lt}

pub find_none : (p : ℕ → Bool) (a m : ℕ) → ((j : ℕ) → a ≤ j → j < a + m → p j ≡ false)
    → find p (range_with_len a m) ≡ None
find_none p a zero f = refl
find_none p a (suc m) f
    = rw (f a (omega arith) (omega arith))
    (find_none p (a + 1) m (λ j u v. f j (omega arith) (omega arith)))

pub find_first : (p : ℕ → Bool) (a m i : ℕ) → a ≤ i → i < a + m → p i ≡ true
    → ((j : ℕ) → a ≤ j → j < i → p j ≡ false)
    → find p (range_with_len a m) ≡ Some i
find_first p a zero i l h e f = absurd (omega arith)
find_first p a (suc m) i l h e f = elim (cases_lt a i) [
  | inl t ↦ rw (f a (omega arith) t)
      (find_first p (a + 1) m i (omega arith) (omega arith) e (λ j u v. f j (omega arith) v))
  | inr t ↦ let same : i ≡ a = omega arith in let q : p a ≡ true = subst (λ k. p k ≡ true) same e in
      rw q (ap Some (sym same))
]
