-- Tests that agree on a range of numbers find and count the same there.
use Rattle.std.proofs.Common.{◌≡◌, ℕ, ◌+◌, ◌<◌, ◌||◌, true, false, Bool, Option, Some, cond, refl}
use Rattle.std.proofs.Common.{sym, ◌∙◌, ap, subst, zero, suc, inl, inr, ◌⊎◌, arith}
use Rattle.std.specs.List.{count_by, find, list_any, range_with_len}
use Rattle.hex_board.proofs.WinLaws.{counted}

pub any_same : (p q : ℕ → Bool) (a m : ℕ) → ((k : ℕ) → k < a + m → p k ≡ q k)
    → list_any p (range_with_len a m) ≡ list_any q (range_with_len a m)
any_same p q a zero f = refl
any_same p q a (suc m) f =
    ap (λ b. b || list_any p (range_with_len (a + 1) m)) (f a (omega arith))
    ∙ ap (λ b. q a || b) (any_same p q (a + 1) m (λ k l. f k (omega arith)))

pub find_same : (p q : ℕ → Bool) (a m : ℕ) → ((k : ℕ) → k < a + m → p k ≡ q k)
    → find p (range_with_len a m) ≡ find q (range_with_len a m)
find_same p q a zero f = refl
find_same p q a (suc m) f =
    ap (λ b. cond b (Some a) (find p (range_with_len (a + 1) m))) (f a (omega arith))
    ∙ ap (λ o. cond (q a) (Some a) o) (find_same p q (a + 1) m (λ k l. f k (omega arith)))

pub count_same : (p q : ℕ → Bool) (a m : ℕ) → ((k : ℕ) → k < a + m → p k ≡ q k)
    → count_by p (range_with_len a m) ≡ count_by q (range_with_len a m)
count_same p q a zero f = refl
count_same p q a (suc m) f =
    counted p a m
    ∙ (ap (λ b. cond b 1 0 + count_by p (range_with_len (a + 1) m)) (f a (omega arith))
    ∙ (ap (λ v. cond (q a) 1 0 + v) (count_same p q (a + 1) m (λ k l. f k (omega arith))) ∙ sym (counted q a m)))

found_one : (x k n : ℕ) (b : Bool) (o : Option ℕ) → cond b (Some x) o ≡ Some k → x < n
    → (k < n) ⊎ (o ≡ Some k)
found_one x k n true o h l = let q : x ≡ k = cc in inl (subst (λ v. v < n) q l)
found_one x k n false o h l = inr h

pub found_below : (p : ℕ → Bool) (a m k : ℕ) → find p (range_with_len a m) ≡ Some k → k < a + m
found_below p a zero k h = absurd (cc)
found_below p a (suc m) k h
    = elim (found_one a k (a + suc m) (p a) (find p (range_with_len (a + 1) m)) h (omega arith)) [
      | inl l ↦ l
      | inr f ↦ omega (arith, found_below p (a + 1) m k f)
    ]
