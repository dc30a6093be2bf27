-- Rows of the cells of a set, and the best of them.
use Rattle.std.proofs.Common.{◌≡◌, ℕ, ◌+◌, ◌^◌, ◌<◌, ◌≤◌, zero, suc, List, [], ◌∷◌, ◌++◌, All}
use Rattle.std.proofs.Common.{Bool, true, false, cond, length, get_or, Contains, refl, sym, ap}
use Rattle.std.proofs.Common.{subst, ◌∙◌, inl, inr, map-id, arith, eq-or-lt_of_le}
use Rattle.std.proofs.Common.{true≢false}
use Rattle.std.specs.List.{AllWithin, filter, range_with_len}
use Rattle.std.proofs.lemmas.Bool.{cases_Bool}
use Rattle.std.proofs.lemmas.List.{length-map}
use Rattle.std.proofs.lemmas.List.Elements.{All-contains, filter-append, filter_passes}
use Rattle.std.proofs.lemmas.List.FromFn.{map-range_with_len_more}
use Rattle.hex_cells.specs.Sets.{has}
use Rattle.hex_cells.specs.declared.colours.Colour.{Colour}
use Rattle.hex_cells.proofs.Bits.{cell_below}
use Rattle.hex_board.specs.Positions.{Position}
use Rattle.look_ahead.specs.Looked.{IsBestCell, IsLookOf, LookedData, set_cells}
use Rattle.look_ahead.specs.Looked.{set_cells_below, cells_of_rows, rank_of}
use Rattle.look_ahead.specs.declared.rows.LookRow.{LookRow}

-- ---- cells of a set

range_more : (k : ℕ) → range_with_len 0 (k + 1) ≡ range_with_len 0 k ++ k ∷ []
range_more k = sym (map-id (range_with_len 0 (k + 1)))
    ∙ map-range_with_len_more (λ i. i) 0 k k (omega arith)
    ∙ ap (λ xs. xs ++ k ∷ []) (map-id (range_with_len 0 k))

-- no cell is below 0
pub none_below : (set : ℕ) (rows : List LookRow) → rows ≡ []
    → cells_of_rows rows ≡ set_cells_below set 0
unfolding set_cells_below
none_below set rows e = ap cells_of_rows e

-- the cells of the set below k + 1
pub cells_more : (set k : ℕ) (before now : List ℕ) → before ≡ set_cells_below set k
    → now ≡ before ++ filter (has set) (k ∷ []) → now ≡ set_cells_below set (k + 1)
unfolding set_cells_below
cells_more set k before now e more =
    more ∙ ap (λ xs. xs ++ filter (has set) (k ∷ [])) e
    ∙ sym (filter-append (has set) (range_with_len 0 k) (k ∷ []))
    ∙ ap (filter (has set)) (sym (range_more k))

-- if a number of a range passes, some do
some_pass : (p : ℕ → Bool) (a n k : ℕ) → a ≤ k → k < a + n → p k ≡ true
    → 0 < length (filter p (range_with_len a n))
some_pass p a zero k l m t = absurd (omega arith)
some_pass p a (suc n) k l m t = elim (cases_Bool (p a)) [
  | inl passes ↦ subst (λ b. 0 < length (cond b (a ∷ rest) rest)) (sym passes) (omega arith)
  | inr fails ↦ subst (λ b. 0 < length (cond b (a ∷ rest) rest)) (sym fails)
      (some_pass p (a + 1) n k (later (p a) (p k) fails t (λ e. ap p e) l) (omega arith) t)
]
  where
    rest : List ℕ
    rest = filter p (range_with_len (a + 1) n)

    later : (b c : Bool) → b ≡ false → c ≡ true → (a ≡ k → b ≡ c) → a ≤ k → a + 1 ≤ k
    later b c fails passes same low = elim (eq-or-lt_of_le low) [
      | inl e ↦ absurd (true≢false (sym passes ∙ sym (same e) ∙ fails))
      | inr less ↦ omega (arith, less)
    ]

-- a set that has a cell has rows
pub rows_there : (set k : ℕ) (rows : List LookRow) → set < 2 ^ 121 → has set k ≡ true
    → cells_of_rows rows ≡ set_cells set → 0 < length rows
unfolding set_cells_below
rows_there set k rows small t e =
    let some = some_pass (has set) 0 121 k (omega arith) (cell_below set 121 k small t) t in
    let long : length (set_cells set) ≡ length rows
    = ap length (sym e) ∙ length-map rows (λ (row : LookRow). row.cell) in
    subst (λ n. 0 < n) long some

-- ---- the best of the rows

abbrev pub AreAtMost : ℕ → LookRow → Type 0
AreAtMost top row = rank_of row ≤ top

-- the cell of a row is one of the set
pub best_among : (set k : ℕ) (rows : List LookRow) → cells_of_rows rows ≡ set_cells set
    → IsBestCell rows k → has set k ≡ true
unfolding set_cells_below
best_among set k rows e (row, best, is) =
    let one = best.0 in
    let there : Contains (cells_of_rows rows) row.cell
    = (
      one.0,
      subst (λ n. one.0 < n) (sym (length-map rows (λ (r : LookRow). r.cell))) one.1,
      at rows one.0 row one.1 one.2,
    ) in
    subst (λ c. has set c ≡ true) is
    (All-contains (λ c. has set c ≡ true) (set_cells set) row.cell
    (filter_passes (has set) (range_with_len 0 121))
    (subst (λ cs. Contains cs row.cell) e there))
  where
    at : (rows : List LookRow) (i : ℕ) (row : LookRow) → i < length rows → get_or rows i row ≡ row
        → get_or (cells_of_rows rows) i row.cell ≡ row.cell
    at [] i row l e = refl
    at (r ∷ rows) zero row l e = ap (λ (v : LookRow). v.cell) e
    at (r ∷ rows) (suc i) row l e = at rows i row (omega arith) e

-- a row that is best among those that were looked at, if these are all
pub best_found : (rows : List LookRow) (best : LookRow) (top n : ℕ) → Contains rows best
    → top ≡ rank_of best → AllWithin (AreAtMost top) rows 0 n → length rows ≤ n
    → IsBestCell rows best.cell
best_found rows best top n one rank most long = (
  best,
  (
    one,
    subst (λ t. All (AreAtMost t) rows) rank
        (λ i d l. most i d (omega arith) (omega (arith, l, long))),
  ),
  refl,
)

-- ---- what is told

pub look_within : (board : Position) (player : Colour) (allowed n budget : ℕ) (l : LookedData)
    → n ≤ budget → IsLookOf board player allowed n l → IsLookOf board player allowed budget l
look_within board player allowed n budget l few h = record {
  cells = h.cells;
  root = h.root;
  few = omega (arith, h.few, few);
  among = h.among;
  best = h.best;
  known = h.known;
  lines = h.lines;
}
