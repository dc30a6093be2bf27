-- The tables of the edges, read bit by bit, and the cells of edges and boards.
use Rattle.std.proofs.Common.{◌≡◌, ℕ, ◌+◌, ◌*◌, ◌^◌, ◌<◌, ◌≤◌, ◌&&◌, not, nat_lt, Bool, true, false}
use Rattle.std.proofs.Common.{List, [], ◌∷◌, length, get_or, refl, sym, ◌∙◌, ap, arith, inl, inr}
use Rattle.std.proofs.Common.{zero, suc}
use Rattle.std.specs.List.{list_all, range_with_len}
use Rattle.std.proofs.Math.Nat.{mul-le-mul_right}
use Rattle.std.proofs.lemmas.Bool.{and_parts, cases_lt, cases_eq, false_from_ne_true, false≢true}
use Rattle.std.proofs.lemmas.Bool.{ltb-true}
use Rattle.std.proofs.lemmas.Bool.Decides.{nat_tests}
use Rattle.hex_cells.specs.declared.colours.Colour.{Colour}
use Rattle.hex_cells.specs.declared.colours.Colour.TheVariants.{Black, White}
use Rattle.hex_cells.specs.declared.edges.TheConstants.{FIRST_ROWS, LAST_ROWS, FIRST_COLUMNS}
use Rattle.hex_cells.specs.declared.edges.TheConstants.{LAST_COLUMNS}
use Rattle.hex_cells.specs.Edges.{on_edge}
use Rattle.hex_cells.specs.Sets.{has}
use Rattle.hex_cells.proofs.Bits.{has_above}

same : Bool → Bool → Bool
same true b = b
same false b = not b

same_out : (a b : Bool) → same a b ≡ true → a ≡ b
unfolding same
same_out true b h = sym h
same_out false true h = absurd (false≢true h)
same_out false false h = refl

-- whether the number f is below 2 ^ 121, and its bits are those that pass the test
right : (ℕ → Bool) → ℕ → Bool
right p f = nat_lt f (2 ^ 121) && list_all (λ k. same (has f k) (p k)) (range_with_len 0 121)

-- whether each entry of a table has the bits of its size
fits : (ℕ → ℕ → Bool) → List ℕ → Bool
fits p [] = true
fits p (f ∷ fs) = right (p 0) f && fits (λ n. p (suc n)) fs

checked : (q : ℕ → Bool) (a m k : ℕ) → list_all q (range_with_len a m) ≡ true → a ≤ k → k < a + m
    → q k ≡ true
checked q a zero k h l b = absurd (omega arith)
checked q a (suc m) k h l b =
    let t = and_parts (q a) (list_all q (range_with_len (a + 1) m)) h in
    elim (cases_eq a k) [ inl e ↦ ap q (sym e) ∙ t.0 | inr n ↦ checked q (a + 1) m k t.1 (omega arith) (omega arith) ]

entry : (p : ℕ → ℕ → Bool) (fs : List ℕ) (i : ℕ) → fits p fs ≡ true → i < length fs
    → right (p i) (get_or fs i 0) ≡ true
unfolding fits
entry p [] i h l = absurd (omega arith)
entry p (f ∷ fs) zero h l = (and_parts (right (p 0) f) (fits (λ n. p (suc n)) fs) h).0
entry p (f ∷ fs) (suc i) h l
    = entry (λ n. p (suc n)) fs i (and_parts (right (p 0) f) (fits (λ n. p (suc n)) fs) h).1
    (omega arith)

right_below : (p : ℕ → Bool) (f : ℕ) → right p f ≡ true → f < 2 ^ 121
unfolding right
right_below p f h
    = ltb-true f (2 ^ 121)
    (and_parts (nat_lt f (2 ^ 121)) (list_all (λ k. same (has f k) (p k)) (range_with_len 0 121)) h).0

right_at : (p : ℕ → Bool) (f k : ℕ) → right p f ≡ true → k < 121 → has f k ≡ p k
unfolding right
right_at p f k h l = same_out (has f k) (p k) (checked (λ j. same (has f j) (p j)) 0 121 k
    (and_parts (nat_lt f (2 ^ 121)) (list_all (λ j. same (has f j) (p j)) (range_with_len 0 121)) h).1 (omega arith) (omega arith))

-- a cell on an edge lies on the board
pub edge_on : (c : Colour) (b : Bool) (n k : ℕ) → on_edge c b n k ≡ true → k < n * n
edge_on Black false n k h = grind (arith, nat_tests)
edge_on Black true n k h = grind (arith, nat_tests)
edge_on White false n k h = grind (arith, nat_tests)
edge_on White true n k h = grind (arith, nat_tests)

pub square_small : (n : ℕ) → n ≤ 11 → n * n ≤ 121
square_small n h = let m : n * n ≤ 11 * n = mul-le-mul_right n h in omega arith

-- a cell of a board is one of 121
pub board_cell : (n k : ℕ) → n ≤ 11 → k < n * n → k < 121
board_cell n k h l = let s : n * n ≤ 121 = square_small n h in omega arith

table_has : (c : Colour) (b : Bool) (fs : List ℕ) (n k : ℕ) → fits (on_edge c b) fs ≡ true
    → n < length fs → n ≤ 11 → has (get_or fs n 0) k ≡ on_edge c b n k
table_has c b fs n k h l m = elim (cases_lt k 121) [
  | inl s ↦ right_at (on_edge c b n) (get_or fs n 0) k (entry (on_edge c b) fs n h l) s
  | inr g ↦ has_above (get_or fs n 0) 121 k
      (right_below (on_edge c b n) (get_or fs n 0) (entry (on_edge c b) fs n h l)) g
      ∙ sym (false_from_ne_true (on_edge c b n k) (λ t. past k (n * n) g (edge_on c b n k t) (square_small n m)))
]
  where
    past : (k m : ℕ) → 121 ≤ k → k < m → m ≤ 121 → ⊥
    past k m g l s = absurd (omega arith)

first_rows : fits (on_edge Black false) FIRST_ROWS ≡ true
unfolding fits right same has
first_rows = refl

last_rows : fits (on_edge Black true) LAST_ROWS ≡ true
unfolding fits right same has
last_rows = refl

first_columns : fits (on_edge White false) FIRST_COLUMNS ≡ true
unfolding fits right same has
first_columns = refl

last_columns : fits (on_edge White true) LAST_COLUMNS ≡ true
unfolding fits right same has
last_columns = refl

pub first_row_below : (n : ℕ) → n ≤ 11 → get_or FIRST_ROWS n 0 < 2 ^ 121
first_row_below n h = right_below (on_edge Black false n) (get_or FIRST_ROWS n 0)
    (entry (on_edge Black false) FIRST_ROWS n first_rows (omega arith))

pub last_row_below : (n : ℕ) → n ≤ 11 → get_or LAST_ROWS n 0 < 2 ^ 121
last_row_below n h = right_below (on_edge Black true n) (get_or LAST_ROWS n 0)
    (entry (on_edge Black true) LAST_ROWS n last_rows (omega arith))

pub first_column_below : (n : ℕ) → n ≤ 11 → get_or FIRST_COLUMNS n 0 < 2 ^ 121
first_column_below n h = right_below (on_edge White false n) (get_or FIRST_COLUMNS n 0)
    (entry (on_edge White false) FIRST_COLUMNS n first_columns (omega arith))

pub last_column_below : (n : ℕ) → n ≤ 11 → get_or LAST_COLUMNS n 0 < 2 ^ 121
last_column_below n h = right_below (on_edge White true n) (get_or LAST_COLUMNS n 0)
    (entry (on_edge White true) LAST_COLUMNS n last_columns (omega arith))

pub first_row_has : (n k : ℕ) → n ≤ 11 → has (get_or FIRST_ROWS n 0) k ≡ on_edge Black false n k
first_row_has n k h = table_has Black false FIRST_ROWS n k first_rows (omega arith) h

pub last_row_has : (n k : ℕ) → n ≤ 11 → has (get_or LAST_ROWS n 0) k ≡ on_edge Black true n k
last_row_has n k h = table_has Black true LAST_ROWS n k last_rows (omega arith) h

pub first_column_has : (n k : ℕ) → n ≤ 11
    → has (get_or FIRST_COLUMNS n 0) k ≡ on_edge White false n k
first_column_has n k h = table_has White false FIRST_COLUMNS n k first_columns (omega arith) h

pub last_column_has : (n k : ℕ) → n ≤ 11 → has (get_or LAST_COLUMNS n 0) k ≡ on_edge White true n k
last_column_has n k h = table_has White true LAST_COLUMNS n k last_columns (omega arith) h
