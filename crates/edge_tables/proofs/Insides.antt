-- What `CellSet::inside` answers is whether no cell of the one set is outside the other.
use Rattle.std.proofs.Common.{◌≡◌, ℕ, Bool, true, false, ◌==◌, ◌&&◌, not, IsTrue, ◌↔◌, refl, sym, ap, ◌∙◌}
use Rattle.std.proofs.lemmas.Bool.{eqb-true}
use Rattle.hex_cells.specs.Sets.{has, without_cells}
use Rattle.hex_cells.proofs.Bits.{has_none, has_without_cells, same_set}

-- if each cell of a is in b, none is outside
no_cell_out : (a b : ℕ) → ((k : ℕ) → has a k ≡ true → has b k ≡ true) → without_cells a b ≡ 0
no_cell_out a b f = same_set (without_cells a b) 0 (λ k. has_without_cells a b k ∙ by (has a k) (has b k) (f k) ∙ sym (has_none k))
  where
    by : (x y : Bool) → (x ≡ true → y ≡ true) → (x && not y) ≡ false
    by true y g = ap not (g refl)
    by false y g = refl

-- if none is outside, each cell of a is in b
cell_in : (a b k : ℕ) → without_cells a b ≡ 0 → has a k ≡ true → has b k ≡ true
cell_in a b k e there = by (has a k) (has b k) there (sym (has_without_cells a b k) ∙ ap (λ s. has s k) e ∙ has_none k)
  where
    by : (x y : Bool) → x ≡ true → (x && not y) ≡ false → y ≡ true
    by x true p q = refl
    by true false p q = sym q
    by false false p q = p

pub inside_test : (a b : ℕ) (r : Bool) → IsTrue r ↔ ((k : ℕ) → has a k ≡ true → has b k ≡ true) → r ≡ (without_cells a b == 0)
inside_test a b true h = sym (ap (λ s. s == 0) (no_cell_out a b (h.0 refl)))
inside_test a b false h = by (without_cells a b == 0) refl
  where
    by : (x : Bool) → (without_cells a b == 0) ≡ x → false ≡ x
    by false e = refl
    by true e = h.1 (λ k. cell_in a b k (eqb-true _ _ e))

-- each set lies inside itself
pub inside_itself : (a : ℕ) → (without_cells a a == 0) ≡ true
inside_itself a = ap (λ s. s == 0) (no_cell_out a a (λ k p. p))
