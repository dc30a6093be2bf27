-- The best row, and the rows in order.
use Rattle.std.proofs.Common.{◌≡◌, ℕ, ◌+◌, ◌<◌, List, [], ◌∷◌, ◌++◌, length, get_or, map, sym, ap}
use Rattle.std.proofs.Common.{◌∙◌, arith}
use Rattle.std.specs.List.{range_with_len}
use Rattle.std.proofs.lemmas.List.{length-map, get_or-map}
use Rattle.std.proofs.lemmas.List.FromFn.{length-map-range_with_len, get_or-map-range_with_len}
use Rattle.std.proofs.lemmas.List.FromFn.{map-range_with_len_more}
use Rattle.tree_words.specs.Settings.{Setting}
use Rattle.tree_words.specs.declared.roots.Row.{Row}
use Rattle.tree_words.specs.Roots.{HasRoot, root_count, row_at, rows_of, Beats, Rise}

-- of the first n children none beats the one of the place
pub record Leads (s : Setting) (words : List ℕ) (n place : ℕ) : Type 0 where
  pub within : place < root_count s words
  pub none : (i : ℕ) → i < n → ¬ (Beats (row_at s words i) (row_at s words place))

cell_at : (f : ℕ → Row) (n k : ℕ) → k < n
    → get_or (map (λ (r : Row). r.cell) (map f (range_with_len 0 n))) k 0 ≡ (f k).cell
cell_at f n k l =
    get_or-map (λ (r : Row). r.cell) (map f (range_with_len 0 n)) k (f 0) 0
    (omega (arith, l, length-map-range_with_len f 0 n))
    ∙ ap (λ (r : Row). r.cell) (get_or-map-range_with_len f 0 n k k (f 0) l (omega arith))

pub rows_rise : (s : Setting) (words : List ℕ) → HasRoot s words → Rise (rows_of s words)
rows_rise s words h k l =
    let n : ℕ = root_count s words in
    let len : length (map (λ (r : Row). r.cell) (rows_of s words)) ≡ n
    = length-map (rows_of s words) (λ (r : Row). r.cell)
    ∙ length-map-range_with_len (row_at s words) 0 n in
    let m : k + 1 < n = omega (arith, l, len) in
    omega (
      arith,
      h.rise k (omega (arith, m, h.count)),
      cell_at (row_at s words) n k (omega (arith, m)),
      cell_at (row_at s words) n (k + 1) m,
      h.cells k (omega (arith, m)),
      h.cells (k + 1) m,
    )

pub one_row_more : (f : ℕ → Row) (n : ℕ) (rows next : List Row) (row : Row)
    → rows ≡ map f (range_with_len 0 n) → row ≡ f n → next ≡ rows ++ row ∷ []
    → next ≡ map f (range_with_len 0 (n + 1))
one_row_more f n rows next row h e q = q
    ∙ (ap (λ r. rows ++ r ∷ []) e ∙ (ap (λ rs. rs ++ f n ∷ []) h ∙ sym (map-range_with_len_more f 0 n n (omega arith))))
