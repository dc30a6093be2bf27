-- A text names one cell of a board at most.
use Rattle.std.proofs.Common.{◌≡◌, ◌≢◌, ℕ, ◌+◌, ◌-◌, ◌*◌, ◌/◌, ◌%◌, ◌<◌, ◌≤◌, Bool, true, false}
use Rattle.std.proofs.Common.{List, [], ◌∷◌, Some, None, length, get_or, take, drop, refl, sym, ◌∙◌}
use Rattle.std.proofs.Common.{ap, subst, arith, inl, inr, zero, suc}
use Rattle.std.specs.Char.{to_ascii_lowercase}
use Rattle.std.specs.Fmt.{decimal}
use Rattle.std.specs.List.{find, range_with_len}
use Rattle.std.specs.Str.{bytes_eq, str_to_ascii_lowercase}
use Rattle.std.proofs.Math.Nat.{mul-le-mul_right}
use Rattle.std.proofs.lemmas.Bool.{cases_lt, cases_eq, cases_Bool, both_ways, false_from_ne_true}
use Rattle.std.proofs.lemmas.Fmt.{decimal_digit, decimal_injective}
use Rattle.std.proofs.lemmas.List.{take_rest}
use Rattle.std.proofs.lemmas.Nat.{div-add-mod', mod_below}
use Rattle.std.proofs.lemmas.Slice.Eq.{bytes_eq-Decides}
use Rattle.std.proofs.lemmas.Str.Ascii.{lowercase_is}
use Rattle.hex_cells.specs.Vertices.{IsVertex, vertex_cell, vertex_of}
use Rattle.hex_cells.proofs.Around.{place}
use Rattle.hex_cells.proofs.Digits.{decimal_two}
use Rattle.hex_cells.proofs.Ranges.{find_none}

-- ---- digits have one case

-- each byte is below the letters
abbrev Low : List ℕ → Type 0
Low [] = Unit {0}
Low (x ∷ xs) = (x < 65) × Low xs

low_lower : (xs : List ℕ) → Low xs → str_to_ascii_lowercase xs ≡ xs
low_lower [] a = refl
low_lower (x ∷ xs) a = ap (λ v. v ∷ str_to_ascii_lowercase xs) ((lowercase_is x).1 a.0)
    ∙ ap (λ v. x ∷ v) (low_lower xs a.1)

not_lowered : (x y : ℕ) → to_ascii_lowercase x ≡ y → y < 65 → x ≡ y
not_lowered x y e h = let t = lowercase_is x in elim (cases_lt x 65) [
  | inl l ↦ sym (t.1 l) ∙ e
  | inr g ↦ elim (cases_lt 90 x) [
    | inl l ↦ sym (t.2 l) ∙ e
    | inr l ↦ let f : to_ascii_lowercase x ≡ x + 32 = t.0 (g, l) in absurd (omega arith)
  ]
]

lower_low : (xs ys : List ℕ) → str_to_ascii_lowercase xs ≡ ys → Low ys → xs ≡ ys
lower_low [] ys e a = e
lower_low (x ∷ xs) [] e a = absurd (cc)
lower_low (x ∷ xs) (y ∷ ys) e a =
    let h : to_ascii_lowercase x ≡ y = cc in
    let t : str_to_ascii_lowercase xs ≡ ys = cc in
    ap (λ v. v ∷ xs) (not_lowered x y h a.0) ∙ ap (λ v. y ∷ v) (lower_low xs ys t a.1)

decimal_low : (m : ℕ) → 1 ≤ m → m ≤ 99 → Low (decimal m)
decimal_low m l h = elim (cases_lt m 10) [
  | inl s ↦ subst Low (sym (decimal_digit m s)) (omega arith, tt)
  | inr s ↦ subst Low (sym (decimal_two m s (omega arith))) (omega arith, (omega arith, tt))
]

-- ---- a text is its first byte and the rest

first_rest : (xs : List ℕ) → length xs ≢ 0 → xs ≡ get_or xs 0 0 ∷ drop 1 xs
first_rest [] n = absurd (n refl)
first_rest (x ∷ xs) n = refl

lowered : (xs : List ℕ) → length xs ≢ 0 → str_to_ascii_lowercase xs ≡ to_ascii_lowercase
    (get_or xs 0 0) ∷ str_to_ascii_lowercase (drop 1 xs)
lowered xs n = ap str_to_ascii_lowercase (first_rest xs n)

pub no_text : (xs : List ℕ) (x : ℕ) (ys : List ℕ) → length xs ≡ 0
    → str_to_ascii_lowercase xs ≡ x ∷ ys → ⊥
no_text [] x ys e f = cc
no_text (y ∷ xs) x ys e f = absurd (omega arith)

pub no_letter : (xs : List ℕ) → length xs ≢ 0
    → ((c : ℕ) → c < 26 → to_ascii_lowercase (get_or xs 0 0) ≢ 97 + c)
    → (c r : ℕ) → c < 26 → r < 99 → str_to_ascii_lowercase xs ≢ (97 + c) ∷ decimal (r + 1)
no_letter xs n f c r h l e = let g = sym (lowered xs n) ∙ e in
    let t : to_ascii_lowercase (get_or xs 0 0) ≡ 97 + c = cc in f c h t

pub no_number : (xs : List ℕ) → length xs ≢ 0
    → ((m : ℕ) → 1 ≤ m → m ≤ 99 → take (length xs - 1) (drop 1 xs) ≢ decimal m)
    → (c r : ℕ) → c < 26 → r < 99 → str_to_ascii_lowercase xs ≢ (97 + c) ∷ decimal (r + 1)
no_number xs n f c r h l e =
    let g = sym (lowered xs n) ∙ e in
    let t : str_to_ascii_lowercase (drop 1 xs) ≡ decimal (r + 1) = cc in
    f (r + 1) (omega arith) (omega arith)
    (take_rest xs 1 ∙ lower_low (drop 1 xs) (decimal (r + 1)) t (decimal_low (r + 1) (omega arith) (omega arith)))

pub is_place : (xs : List ℕ) (c m : ℕ) → length xs ≢ 0 → to_ascii_lowercase (get_or xs 0 0) ≡ 97 + c
    → 1 ≤ m → m ≤ 99 → take (length xs - 1) (drop 1 xs) ≡ decimal m
    → (m - 1 < 99) × (str_to_ascii_lowercase xs ≡ (97 + c) ∷ decimal (m - 1 + 1))
is_place xs c m n e l h f =
    let g : m - 1 + 1 ≡ m = omega arith in (
      omega arith,
      lowered xs n ∙ (ap (λ v. v ∷ str_to_ascii_lowercase (drop 1 xs)) e
          ∙ (ap (λ v. (97 + c) ∷ str_to_ascii_lowercase v) (sym (take_rest xs 1) ∙ f)
          ∙ (ap (λ v. (97 + c) ∷ v) (low_lower (decimal m) (decimal_low m l h)) ∙ ap (λ v. (97 + c) ∷ decimal v) (sym g)))),
    )

-- ---- the cell of a vertex

quotient : (q n k : ℕ) → q * n + k % n ≡ k → k < n * n → q < n
quotient q n k e h
    = elim (cases_lt q n) [ inl l ↦ l | inr g ↦ let m : n * n ≤ q * n = mul-le-mul_right n g in absurd (omega arith) ]

on_board : (n k : ℕ) → k < n * n → (k % n < n) × (k / n < n)
on_board zero k h = absurd (omega arith)
on_board (suc n) k h
    = (mod_below k (suc n) (omega arith), quotient (k / suc n) (suc n) k (div-add-mod' k (suc n)) h)

same_place : (n c r k : ℕ) → n ≤ 11 → k < n * n → r < 99
    → (97 + c) ∷ decimal (r + 1) ≡ vertex_of n k → (c ≡ k % n) × (r ≡ k / n)
same_place n c r k h l m e =
    let b = on_board n k l in
    let f : 97 + c ≡ 97 + k % n = cc in
    let g : decimal (r + 1) ≡ decimal (k / n + 1) = cc in
    let i : r + 1 ≡ k / n + 1 = decimal_injective (r + 1) (k / n + 1) (omega arith)
    (omega (arith, b.1)) g in
    (omega arith, omega arith)

-- two cells of a board with one vertex are one cell
pub one_vertex : (n j k : ℕ) → n ≤ 11 → j < n * n → k < n * n
    → vertex_of n j ≡ vertex_of n k → j ≡ k
one_vertex n j k h a b e =
    let u = on_board n j a in
    let t = same_place n (j % n) (j / n) k h b (omega (arith, u.1)) e in
    sym (div-add-mod' j n)
    ∙ (ap (λ v. v * n + j % n) t.1 ∙ (ap (λ v. k / n * n + v) t.0 ∙ div-add-mod' k n))

later : (p : ℕ → Bool) (a k : ℕ) → a ≤ k → p k ≡ true → p a ≡ false → a + 1 ≤ k
later p a k l e t
    = elim (cases_eq a k) [ inl q ↦ absurd (both_ways (p a) t (ap p q ∙ e)) | inr q ↦ omega arith ]

find_one : (p : ℕ → Bool) (a m k : ℕ) → a ≤ k → k < a + m → p k ≡ true
    → ((j : ℕ) → a ≤ j → j < a + m → p j ≡ true → j ≡ k) → find p (range_with_len a m) ≡ Some k
find_one p a zero k l h e f = absurd (omega arith)
find_one p a (suc m) k l h e f = elim (cases_Bool (p a)) [
  | inl t ↦ rw t (ap Some (f a (omega arith) (omega arith) t))
  | inr t ↦ rw t
      (find_one p (a + 1) m k (later p a k l e t) (omega arith) e (λ j u v w. f j (omega arith) (omega arith) w))
]

pub cell_found : (n k : ℕ) (xs : List ℕ) → n ≤ 11 → IsVertex n xs k → vertex_cell n xs ≡ Some k
unfolding vertex_cell
cell_found n k xs h v = find_one (λ j. bytes_eq (str_to_ascii_lowercase xs) (vertex_of n j)) 0
    (n * n) k (omega arith) (omega (arith, v.0))
    ((bytes_eq-Decides (str_to_ascii_lowercase xs) (vertex_of n k)).1 v.1)
    (λ j a b e. one_vertex n j k h (omega arith) v.0 (sym ((bytes_eq-Decides (str_to_ascii_lowercase xs) (vertex_of n j)).0 e) ∙ v.1))

pub no_cell : (n : ℕ) (xs : List ℕ) → ((k : ℕ) → ¬ (IsVertex n xs k)) → vertex_cell n xs ≡ None
unfolding vertex_cell
no_cell n xs f = find_none (λ j. bytes_eq (str_to_ascii_lowercase xs) (vertex_of n j)) 0 (n * n)
    (λ j a b. false_from_ne_true _ (λ e. f j (omega arith, (bytes_eq-Decides (str_to_ascii_lowercase xs) (vertex_of n j)).0 e)))

pub is_vertex : (n c r k : ℕ) (xs : List ℕ) → c < n → k ≡ r * n + c → k < n * n
    → str_to_ascii_lowercase xs ≡ (97 + c) ∷ decimal (r + 1) → IsVertex n xs k
is_vertex n c r k xs h e l f = let t = place n r c k h e in
    (l, f ∙ (ap (λ v. (97 + v) ∷ decimal (r + 1)) (sym t.0) ∙ ap (λ v. (97 + k % n) ∷ decimal (v + 1)) (sym t.1)))

pub no_place : (n : ℕ) (xs : List ℕ) → n ≤ 11
    → ((c r : ℕ) → c < 26 → r < 99 → str_to_ascii_lowercase xs ≢ (97 + c) ∷ decimal (r + 1))
    → (k : ℕ) → ¬ (IsVertex n xs k)
no_place n xs h f k v = let b = on_board n k v.0 in
    f (k % n) (k / n) (omega (arith, b.0)) (omega (arith, b.1)) v.1

pub off_place : (n c r : ℕ) (xs : List ℕ) → n ≤ 11 → r < 99
    → str_to_ascii_lowercase xs ≡ (97 + c) ∷ decimal (r + 1) → (c < n → r < n → ⊥)
    → (k : ℕ) → ¬ (IsVertex n xs k)
off_place n c r xs h l e f k v = let b = on_board n k v.0 in
    let t = same_place n c r k h v.0 l (sym e ∙ v.1) in f (omega (arith, b.0)) (omega (arith, b.1))

letter : (c : ℕ) → c < 26 → to_ascii_lowercase (97 + c) ≡ 97 + c
letter c h = (lowercase_is (97 + c)).2 (omega arith)

-- the vertex of a cell is read back as that cell
pub read_back : (n k : ℕ) → n ≤ 11 → k < n * n → vertex_cell n (vertex_of n k) ≡ Some k
read_back n k h l = let b = on_board n k l in
    cell_found n k (vertex_of n k) h (
      l,
      ap (λ v. v ∷ str_to_ascii_lowercase (decimal (k / n + 1)))
          (letter (k % n) (omega (arith, b.0)))
          ∙ ap (λ v. (97 + k % n) ∷ v)
          (low_lower (decimal (k / n + 1)) (decimal_low (k / n + 1) (omega arith) (omega (arith, b.1)))),
    )
