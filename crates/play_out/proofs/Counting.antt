-- How often a cell stands in a list, and the empty cells, each once.
use Rattle.std.proofs.Common.{◌≡◌, ℕ, ◌+◌, ◌*◌, ◌<◌, ◌≤◌, ◌==◌, ◌&&◌, not, nat_lt, true, false}
use Rattle.std.proofs.Common.{Bool, cond, List, ◌∷◌, refl, sym, ◌∙◌, ap, arith, inl, inr, zero, suc}
use Rattle.std.proofs.Common.{zero-add}
use Rattle.std.specs.List.{filter, range_with_len, count_by}
use Rattle.std.specs.List.Sorted.{IsPermutation}
use Rattle.std.proofs.lemmas.Bool.{cases_eq, cases_lt, eq-eqb, ne_eqb}
use Rattle.std.proofs.lemmas.Bool.Decides.{nat_tests}
use Rattle.std.proofs.lemmas.List.Sums.{sum_by-cons}
use Rattle.std.proofs.lemmas.List.Sorted.{sum_by-IsPermutation}
use Rattle.hex_cells.specs.Sets.{has}
use Rattle.hex_board.specs.Positions.{Position, is_empty_at}
use Rattle.play_out.specs.Fills.{ListsEmpties, empties_of}

count : (k x : ℕ) (xs : List ℕ) → count_by (λ c. c == k) (x ∷ xs) ≡ cond (x == k) 1 0 + count_by
    (λ c. c == k) xs
count k x xs = sum_by-cons (λ c. cond (c == k) 1 0) x xs

pub counted_here : (k x : ℕ) (xs : List ℕ) → x ≡ k → count_by (λ c. c == k) (x ∷ xs) ≡ 1 + count_by
    (λ c. c == k) xs
counted_here k x xs e = count k x xs ∙ ap (λ b. cond b 1 0 + count_by (λ c. c == k) xs)
    (eq-eqb x k e)

pub counted_later : (k x : ℕ) (xs : List ℕ) → (x ≡ k → ⊥)
    → count_by (λ c. c == k) (x ∷ xs) ≡ count_by (λ c. c == k) xs
counted_later k x xs n = count k x xs
    ∙ (ap (λ b. cond b 1 0 + count_by (λ c. c == k) xs) (ne_eqb x k n) ∙ zero-add (count_by (λ c. c == k) xs))

-- one more cell of a filter, if it is another cell
skipped : (p : ℕ → Bool) (b : Bool) (k x : ℕ) (xs : List ℕ) → (x ≡ k → ⊥)
    → count_by (λ c. c == k) (cond b (x ∷ xs) xs) ≡ count_by (λ c. c == k) xs
skipped p true k x xs n = counted_later k x xs n
skipped p false k x xs n = refl

absent_below : (p : ℕ → Bool) (k a n : ℕ) → k < a
    → count_by (λ c. c == k) (filter p (range_with_len a n)) ≡ 0
absent_below p k a zero l = refl
absent_below p k a (suc n) l = skipped p (p a) k a (filter p (range_with_len (a + 1) n))
    (λ e. absurd (omega arith)) ∙ absent_below p k (a + 1) n (omega arith)

absent_above : (p : ℕ → Bool) (k a n : ℕ) → a + n ≤ k
    → count_by (λ c. c == k) (filter p (range_with_len a n)) ≡ 0
absent_above p k a zero l = refl
absent_above p k a (suc n) l = skipped p (p a) k a (filter p (range_with_len (a + 1) n))
    (λ e. absurd (omega arith)) ∙ absent_above p k (a + 1) n (omega arith)

first : (b : Bool) (k x : ℕ) (xs : List ℕ) → x ≡ k → count_by (λ c. c == k) xs ≡ 0
    → count_by (λ c. c == k) (cond b (x ∷ xs) xs) ≡ cond b 1 0
first true k x xs e z = counted_here k x xs e ∙ ap (λ v. 1 + v) z
first false k x xs e z = z

once : (p : ℕ → Bool) (k a n : ℕ) → a ≤ k → k < a + n
    → count_by (λ c. c == k) (filter p (range_with_len a n)) ≡ cond (p k) 1 0
once p k a zero l m = absurd (omega arith)
once p k a (suc n) l m = elim (cases_eq a k) [
  | inl e ↦ first (p a) k a (filter p (range_with_len (a + 1) n)) e
      (absent_below p k (a + 1) n (omega arith)) ∙ ap (λ v. cond (p v) 1 0) e
  | inr d ↦ skipped p (p a) k a (filter p (range_with_len (a + 1) n)) d
      ∙ once p k (a + 1) n (omega arith) (omega arith)
]

-- no cell off the board is empty
pub off_board : (p : Position) (k : ℕ) → p.size * p.size ≤ k → is_empty_at p k ≡ false
off_board p k l = ap (λ b. b && not (has p.black k) && not (has p.white k))
    (no_less k (p.size * p.size) l)
  where
    no_less : (j n : ℕ) → n ≤ j → nat_lt j n ≡ false
    no_less j n h = grind (arith, nat_tests)

-- the empty cells in rising order are the empty cells
pub empties_listed : (p : Position) → ListsEmpties p (empties_of p)
unfolding empties_of
empties_listed p k = elim (cases_lt k (p.size * p.size)) [
  | inl l ↦ once (is_empty_at p) k 0 (p.size * p.size) (omega arith) (omega arith)
  | inr g ↦ absent_above (is_empty_at p) k 0 (p.size * p.size) (omega arith)
      ∙ sym (ap (λ b. cond b 1 0) (off_board p k (omega arith)))
]

-- and so they are in each other order
pub empties_moved : (p : Position) (xs ys : List ℕ) → IsPermutation xs ys → ListsEmpties p xs
    → ListsEmpties p ys
empties_moved p xs ys m f k = sum_by-IsPermutation (λ c. cond (c == k) 1 0) xs ys m ∙ f k
