-- The best cell of a tree is that of its rows.
use Rattle.std.proofs.Common.{◌≡◌, ℕ, zero, suc, ◌<◌, ◌≤◌, Bool, true, false, cond, List, [], ◌∷◌}
use Rattle.std.proofs.Common.{length, get_or, refl, ap, ◌∙◌, subst, arith}
use Rattle.std.specs.Prelude.{◌==◌, ◌&&◌, ◌||◌, nat_lt}
use Rattle.std.proofs.lemmas.Bool.Decides.{nat_tests}
use Rattle.std.proofs.lemmas.List.FromFn.{length-map-range_with_len, get_or-map-range_with_len}
use Rattle.tree_words.specs.Settings.{Setting}
use Rattle.tree_words.specs.Roots.{IsBest, root_count, row_at, rows_of}
use Rattle.tree_words.specs.declared.roots.Row.{Row}
use Rattle.turn_modes.specs.Rows.{best_cell, is_preferred, preferred_of}

-- row x is not to be preferred to row r
record IsTop (r x : Row) : Type 0 where
  pub most : x.visits ≤ r.visits
  pub least : x.visits ≡ r.visits → r.cell ≤ x.cell

top_itself : (r : Row) → IsTop r r
top_itself r = record { most = omega arith; least = λ e. omega arith }

top_on : (r m x : Row) → IsTop r m → IsTop m x → IsTop r x
top_on r m x a b =
    let u = a.most in
    let v = b.most in
    record {
      most = omega arith;
      least = λ e.
          let c = a.least (omega arith) in
          let d = b.least (omega arith) in
          omega arith;
    }

-- the preferred one of two
better : (best row : Row) (t : Bool) → t ≡ is_preferred row best → IsTop (cond t row best) best
    × IsTop (cond t row best) row
better best row true e
    = (
      record {
        most = more best.visits row.visits best.cell row.cell e;
        least = lower best.visits
            row.visits best.cell row.cell e;
      },
      top_itself row,
    )
  where
    more : (a b c d : ℕ) → true ≡ (nat_lt a b || ((b == a) && nat_lt d c)) → a ≤ b
    more a b c d e = grind (arith, nat_tests)

    lower : (a b c d : ℕ) → true ≡ (nat_lt a b || ((b == a) && nat_lt d c)) → a ≡ b → d ≤ c
    lower a b c d e f = grind (arith, nat_tests)
better best row false e
    = (
      top_itself best,
      record {
        most = fewer best.visits row.visits best.cell row.cell e;
        least = higher best.visits row.visits best.cell row.cell e;
      },
    )
  where
    fewer : (a b c d : ℕ) → false ≡ (nat_lt a b || ((b == a) && nat_lt d c)) → b ≤ a
    fewer a b c d e = grind (arith, nat_tests)

    higher : (a b c d : ℕ) → false ≡ (nat_lt a b || ((b == a) && nat_lt d c)) → b ≡ a → c ≤ d
    higher a b c d e f = grind (arith, nat_tests)

-- the preferred one of all
top_of : (best : Row) (rows : List Row) → IsTop (preferred_of best rows) best
top_of best [] = top_itself best
top_of best (row ∷ rows) =
    let m : Row = cond (is_preferred row best) row best in
    top_on (preferred_of m rows) m best (top_of m rows)
    (better best row (is_preferred row best) refl).0

top_at : (best : Row) (rows : List Row) (i : ℕ) (d : Row) → i < length rows
    → IsTop (preferred_of best rows) (get_or rows i d)
top_at best [] i d l = absurd (omega arith)
top_at best (row ∷ rows) zero d l =
    let m : Row = cond (is_preferred row best) row best in
    top_on (preferred_of m rows) m row (top_of m rows)
    (better best row (is_preferred row best) refl).1
top_at best (row ∷ rows) (suc i) d l = top_at (cond (is_preferred row best) row best) rows i d
    (omega arith)

-- it is one of them
Stands : Row → List Row → Row → Type 0
Stands best rows r = (i : ℕ) × (i < suc (length rows)) × (r ≡ get_or (best ∷ rows) i r)

stands : (best : Row) (rows : List Row) → Stands best rows (preferred_of best rows)
unfolding Stands
stands best [] = (0, omega arith, refl)
stands best (row ∷ rows) = let m : Row = cond (is_preferred row best) row best in
    let s = stands m rows in
    moved (is_preferred row best) (preferred_of m rows) s.0 s.1 s.2
  where
    moved : (t : Bool) (r : Row) (i : ℕ) → i < suc (length rows)
        → r ≡ get_or (cond t row best ∷ rows) i r → (j : ℕ) × (j < suc (suc (length rows)))
        × (r ≡ get_or (best ∷ row ∷ rows) j r)
    moved true r zero l e = (1, omega arith, e)
    moved false r zero l e = (0, omega arith, e)
    moved t r (suc i) l e = (suc (suc i), omega arith, e)

-- what has most visits, and among those with as many the lowest cell, has the best cell
best_is : (rows : List Row) (cell place : ℕ) (row : ℕ → Row)
    → ((i : ℕ) (d : Row) → i < length rows → get_or rows i d ≡ row i) → place < length rows
    → cell ≡ (row place).cell
    → ((i : ℕ) → i < length rows → (row i).visits ≤ (row place).visits)
    → ((i : ℕ) → i < length rows → (row i).visits ≡ (row place).visits → cell ≤ (row i).cell)
    → cell ≡ best_cell rows
unfolding best_cell Stands
best_is [] cell place row at l e most least = absurd (omega arith)
best_is (first ∷ rows) cell place row at l e most least =
    let r : Row = preferred_of first rows in
    let s = stands first rows in
    let here : r ≡ row s.0 = s.2 ∙ at s.0 r s.1 in
    let visits : r.visits ≡ (row s.0).visits = ap (λ (x : Row). x.visits) here in
    let cells : r.cell ≡ (row s.0).cell = ap (λ (x : Row). x.cell) here in
    let top : IsTop r (row place) = over place l in
    let up = top.most in
    let down = most s.0 s.1 in
    let le = top.least (omega arith) in
    let ge = least s.0 s.1 (omega arith) in
    omega arith
  where
    over : (i : ℕ) → i < suc (length rows) → IsTop (preferred_of first rows) (row i)
    over zero l = subst (IsTop (preferred_of first rows)) (at 0 first (omega arith))
        (top_of first rows)
    over (suc i) l = subst (IsTop (preferred_of first rows)) (at (suc i) first l)
        (top_at first rows i first (omega arith))

-- the best cell of the root's children
pub best_in : (s : Setting) (words : List ℕ) (cell : ℕ) → IsBest s words cell
    → cell ≡ best_cell (rows_of s words)
best_in s words cell b =
    let n : ℕ = root_count s words in
    let row : ℕ → Row = row_at s words in
    let many = length-map-range_with_len row 0 n in
    best_is (rows_of s words) cell b.place row
    (λ i d l. get_or-map-range_with_len row 0 n i i d (omega arith) (omega arith))
    (omega (arith, b.within)) b.is
    (λ i l. b.most i (omega arith)) (λ i l. b.least i (omega arith))
