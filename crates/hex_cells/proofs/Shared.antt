-- When a set is empty, and when two sets have a cell in common.
use Rattle.std.proofs.Common.{◌≡◌, ℕ, ◌^◌, ◌<◌, ◌↔◌, IsTrue, not, true, false, Bool, bit_and, eqb}
use Rattle.std.proofs.Common.{eq-eqb, refl, sym, ◌∙◌, arith, inl, inr}
use Rattle.std.specs.Int.{trailing_zeros, w128}
use Rattle.std.proofs.lemmas.Bool.{and_parts, and_from, cases_Bool, eqb-true, both_ways}
use Rattle.std.proofs.lemmas.Nat.{and_le_l}
use Rattle.hex_cells.specs.Sets.{has}
use Rattle.hex_cells.proofs.Bits.{has_and, has_none, least_of, same_set}

zero_has : (a k : ℕ) → a ≡ 0 → has a k ≡ false
zero_has a k e = rw e (has_none k)

-- the number 0 is the set without cells
pub empty_test : (a : ℕ) → IsTrue (eqb a 0) ↔ ((k : ℕ) → has a k ≡ false)
empty_test a
    = ((λ h k. zero_has a k (eqb-true a 0 h)), (λ f. eq-eqb a 0 (same_set a 0 (λ k. f k ∙ sym (has_none k)))))

some_cell : (a : ℕ) → a < 2 ^ 121 → (a ≡ 0 → ⊥) → (k : ℕ) × (has a k ≡ true)
some_cell a h n = let t = least_of a (omega arith) h in (trailing_zeros w128 a, t.1)

-- two sets meet if their common bits are not all 0
pub meets_test : (a b : ℕ) → a < 2 ^ 121
    → IsTrue (not (eqb (bit_and a b) 0)) ↔ ((k : ℕ) × (has a k ≡ true) × (has b k ≡ true))
meets_test a b h = (
  (λ u. let t = some_cell (bit_and a b) (omega (arith, and_le_l a b)) (λ z. both_ways (eqb (bit_and a b) 0) (unset _ u) (eq-eqb (bit_and a b) 0 z)) in
      let p = and_parts (has a t.0) (has b t.0) (sym (has_and a b t.0) ∙ t.1) in (t.0, p.0, p.1)),
  (λ p. elim (cases_Bool (eqb (bit_and a b) 0)) [
    | inl z ↦ absurd
        (both_ways (has (bit_and a b) p.0) (zero_has (bit_and a b) p.0 (eqb-true (bit_and a b) 0 z)) (has_and a b p.0
        ∙ and_from (has a p.0) (has b p.0) p.1 p.2))
    | inr z ↦ set _ z
  ]),
)
  where
    unset : (x : Bool) → IsTrue (not x) → x ≡ false
    unset true e = sym e
    unset false e = refl

    set : (x : Bool) → x ≡ false → IsTrue (not x)
    set true e = sym e
    set false e = refl
