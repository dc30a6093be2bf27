-- The bits of a number below 16, and four cells that are listed at once.
use Rattle.std.proofs.Common.{◌≡◌, ℕ, ◌+◌, ◌%◌, ◌^◌, ◌<◌, ◌≤◌, nat_lt, true, false, Bool, cond}
use Rattle.std.proofs.Common.{List, [], ◌∷◌, ◌++◌, length, take, map, get_or, refl, sym, ◌∙◌, ap}
use Rattle.std.proofs.Common.{arith}
use Rattle.std.specs.Prelude.{count_ones}
use Rattle.std.specs.List.{range_with_len, list_all, take-map}
use Rattle.std.proofs.Math.ListN.{set, length-set}
use Rattle.std.proofs.Math.Nat.{mod-eq_of_lt}
use Rattle.std.proofs.Math.Seq.{take-append-add}
use Rattle.std.proofs.lemmas.List.{take_more_set, length-take-le, take-take}
use Rattle.std.proofs.lemmas.List.Sums.{length-filter}
use Rattle.hex_cells.specs.Sets.{has}
use Rattle.hex_cells.proofs.Counts.{members_test, members_ones}
use Rattle.play_out.specs.Fours.{bits_of, padded_bits}

-- the numbers of those that are true
quad : Bool → Bool → Bool → Bool → List ℕ
quad a b c d =
    let ds : List ℕ = cond d (3 ∷ []) [] in
    let cs : List ℕ = cond c (2 ∷ ds) ds in
    let bs : List ℕ = cond b (1 ∷ cs) cs in
    cond a (0 ∷ bs) bs

bits_are : (n : ℕ) → bits_of n ≡ quad (has n 0) (has n 1) (has n 2) (has n 3)
unfolding quad
bits_are n = refl

pub record Row (bits row : List ℕ) : Type 0 where
  pub whole : length row ≡ 4
  pub front : take (length bits) row ≡ bits
  pub few : length bits ≤ 4
  pub small : list_all (λ x. nat_lt x 4) row ≡ true

row_right : (a b c d : Bool) → Row (quad a b c d) (take 4 (quad a b c d ++ 0 ∷ 0 ∷ 0 ∷ 0 ∷ []))
unfolding quad
row_right true true true true
    = record { whole = refl; front = refl; few = omega arith; small = refl }
row_right true true true false
    = record { whole = refl; front = refl; few = omega arith; small = refl }
row_right true true false true
    = record { whole = refl; front = refl; few = omega arith; small = refl }
row_right true true false false
    = record { whole = refl; front = refl; few = omega arith; small = refl }
row_right true false true true
    = record { whole = refl; front = refl; few = omega arith; small = refl }
row_right true false true false
    = record { whole = refl; front = refl; few = omega arith; small = refl }
row_right true false false true
    = record { whole = refl; front = refl; few = omega arith; small = refl }
row_right true false false false
    = record { whole = refl; front = refl; few = omega arith; small = refl }
row_right false true true true
    = record { whole = refl; front = refl; few = omega arith; small = refl }
row_right false true true false
    = record { whole = refl; front = refl; few = omega arith; small = refl }
row_right false true false true
    = record { whole = refl; front = refl; few = omega arith; small = refl }
row_right false true false false
    = record { whole = refl; front = refl; few = omega arith; small = refl }
row_right false false true true
    = record { whole = refl; front = refl; few = omega arith; small = refl }
row_right false false true false
    = record { whole = refl; front = refl; few = omega arith; small = refl }
row_right false false false true
    = record { whole = refl; front = refl; few = omega arith; small = refl }
row_right false false false false
    = record { whole = refl; front = refl; few = omega arith; small = refl }

pub padded_bits-right : (n : ℕ) → Row (bits_of n) (padded_bits n)
unfolding quad
padded_bits-right n = row_right (has n 0) (has n 1) (has n 2) (has n 3)

-- the bits of a number below 16 are its ones
pub bits_counted : (n : ℕ) → n < 16 → count_ones n ≡ length (bits_of n)
bits_counted n l =
    let small : n % 2 ^ 4 ≡ n = mod-eq_of_lt l in
    ap count_ones (sym small)
    ∙ (sym (members_ones n 4) ∙ (members_test n (has n) 4 (λ k. refl) ∙ sym (length-filter (has n) (range_with_len 0 4))))

-- ---- four writes

four_of : (xs : List ℕ) → length xs ≡ 4
    → get_or xs 0 0 ∷ get_or xs 1 0 ∷ get_or xs 2 0 ∷ get_or xs 3 0 ∷ [] ≡ xs
four_of [] e = absurd (omega (arith, e))
four_of (a ∷ []) e = absurd (omega (arith, e))
four_of (a ∷ b ∷ []) e = absurd (omega (arith, e))
four_of (a ∷ b ∷ c ∷ []) e = absurd (omega (arith, e))
four_of (a ∷ b ∷ c ∷ d ∷ []) e = refl
four_of (a ∷ b ∷ c ∷ d ∷ x ∷ xs) e = absurd (omega (arith, e))

-- four cells more, the first of them at place `count`
abbrev pub written : List ℕ → ℕ → ℕ → ℕ → ℕ → ℕ → List ℕ
written cells count a b c d = set (set (set (set cells count a) (count + 1) b) (count + 2) c)
    (count + 3) d

written_length : (cells : List ℕ) (count a b c d : ℕ)
    → length (written cells count a b c d) ≡ length cells
written_length cells count a b c d =
    length-set _ (count + 3) d
    ∙ (length-set _ (count + 2) c ∙ (length-set _ (count + 1) b ∙ length-set cells count a))

front_four : (cells : List ℕ) (count a b c d : ℕ) → count + 4 ≤ length cells
    → take (count + 4) (written cells count a b c d) ≡ take count cells ++ a ∷ b ∷ c ∷ d ∷ []
front_four cells count a b c d l =
    let one = set cells count a in
    let two = set one (count + 1) b in
    let three = set two (count + 2) c in
    let l1 : length one ≡ length cells = length-set cells count a in
    let l2 : length two ≡ length one = length-set one (count + 1) b in
    let l3 : length three ≡ length two = length-set two (count + 2) c in
    let e4 : count + 4 ≡ count + 3 + 1 = omega arith in
    let e3 : count + 3 ≡ count + 2 + 1 = omega arith in
    let e2 : count + 2 ≡ count + 1 + 1 = omega arith in
    let w1 : take (count + 1) one ≡ take count cells ++ a ∷ []
    = take_more_set cells count a (omega (arith, l)) in
    let w2 : take (count + 2) two ≡ (take count cells ++ a ∷ []) ++ b ∷ [] =
    ap (λ n. take n two) e2
    ∙ (take_more_set one (count + 1) b (omega (arith, l, l1)) ∙ ap (λ xs. xs ++ b ∷ []) w1) in
    let w3 : take (count + 3) three ≡ ((take count cells ++ a ∷ []) ++ b ∷ []) ++ c ∷ [] =
    ap (λ n. take n three) e3
    ∙ (take_more_set two (count + 2) c (omega (arith, l, l1, l2)) ∙ ap (λ xs. xs ++ c ∷ []) w2) in
    let w4 : take (count + 4)
    (set three (count + 3) d) ≡ (((take count cells ++ a ∷ []) ++ b ∷ []) ++ c ∷ []) ++ d ∷ [] =
    ap (λ n. take n (set three (count + 3) d)) e4
    ∙ (take_more_set three (count + 3) d (omega (arith, l, l1, l2, l3)) ∙ ap (λ xs. xs ++ d ∷ []) w3) in
    w4 ∙ together (take count cells)
  where
    together : (xs : List ℕ)
        → (((xs ++ a ∷ []) ++ b ∷ []) ++ c ∷ []) ++ d ∷ [] ≡ xs ++ a ∷ b ∷ c ∷ d ∷ []
    together [] = refl
    together (x ∷ xs) = ap (λ ys. x ∷ ys) (together xs)

-- the first of the four are the bits
pub four_listed : (cells : List ℕ) (count first n a b c d : ℕ) (row : List ℕ) → row ≡ padded_bits n
    → count + 4 ≤ length cells → a ≡ first + get_or row 0 0 → b ≡ first + get_or row 1 0
    → c ≡ first + get_or row 2 0 → d ≡ first + get_or row 3 0
    → take (count + length (bits_of n))
    (written cells count a b c d) ≡ take count cells ++ map (λ j. first + j) (bits_of n)
four_listed cells count first n a b c d row e l ea eb ec ed =
    let r : Row (bits_of n) (padded_bits n) = padded_bits-right n in
    let m : ℕ = length (bits_of n) in
    let whole : length row ≡ 4 = ap length e ∙ r.whole in
    let all : a ∷ b ∷ c ∷ d ∷ [] ≡ map (λ j. first + j) row =
    (λ i. ea i ∷ eb i ∷ ec i ∷ ed i ∷ []) ∙ ap (map (λ j. first + j)) (four_of row whole) in
    let front : take (count + 4)
    (written cells count a b c d) ≡ take count cells ++ map (λ j. first + j) row
    = front_four cells count a b c d l ∙ ap (λ xs. take count cells ++ xs) all in
    let few : count + m ≤ count + 4 = omega (arith, r.few) in
    let len : length (take count cells) ≡ count = length-take-le count cells (omega (arith, l)) in
    sym (take-take (count + m) (count + 4) (written cells count a b c d) few)
    ∙ (ap (take (count + m)) front
    ∙ (ap (λ n. take (n + m) (take count cells ++ map (λ j. first + j) row)) (sym len)
    ∙ (take-append-add (take count cells) (map (λ j. first + j) row) m
    ∙ ap (λ xs. take count cells ++ xs)
    (take-map (λ j. first + j) m row ∙ ap (map (λ j. first + j)) (ap (take m) e ∙ r.front)))))
