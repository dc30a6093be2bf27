-- The cells of a set, listed one by one.
use Rattle.std.proofs.Common.{◌/◌, ◌%◌, ◌-◌, ◌^◌, ◌==◌, zero-add, bit_and, pow-add, subst, inl, inr}
use Rattle.std.proofs.Common.{◌≡◌, ℕ, ◌+◌, ◌*◌, ◌<◌, ◌≤◌, true, false, Bool, cond, List, [], ◌∷◌}
use Rattle.std.proofs.Common.{◌++◌, length, take, map, refl, sym, ◌∙◌, ap, arith, zero, suc}
use Rattle.std.proofs.Common.{add-one, add-zero, append-nil, length-append}
use Rattle.std.proofs.Math.ListN.{set, length-set}
use Rattle.std.specs.List.{filter, range_with_len}
use Rattle.std.proofs.lemmas.List.{take_more_set, take-set, length-map}
use Rattle.std.proofs.lemmas.List.Elements.{filter_agree}
use Rattle.std.proofs.lemmas.List.Sums.{length-filter, count_by-le-length}
use Rattle.std.proofs.lemmas.List.FromFn.{length-range_with_len}
use Rattle.std.proofs.lemmas.Bool.{cases_Bool, eqb-true, eqb-false}
use Rattle.std.proofs.lemmas.Nat.{and_le_r}
use Rattle.std.proofs.Math.Nat.{div-div-eq-div-mul}
use Rattle.hex_cells.specs.Sets.{has}
use Rattle.hex_cells.proofs.Filters.{none_pass, two_pass}
use Rattle.hex_cells.proofs.Bits.{has_test, has_shr, has_mod}
use Rattle.play_out.specs.Fours.{bits_of}
use Rattle.play_out.proofs.Counting.{off_board}
use Rattle.hex_board.specs.Joined.{cells_of}
use Rattle.hex_board.specs.Positions.{Position, is_empty_at}
use Rattle.play_out.specs.Fills.{empties_of}

front : (b : Bool) (x : ℕ) (xs ys : List ℕ)
    → cond b (x ∷ (xs ++ ys)) (xs ++ ys) ≡ cond b (x ∷ xs) xs ++ ys
front true x xs ys = refl
front false x xs ys = refl

-- a filter of one number more
pub filter_more : (p : ℕ → Bool) (a n m : ℕ) → a + n ≡ m
    → filter p (range_with_len a (suc n)) ≡ filter p (range_with_len a n) ++ cond (p m) (m ∷ []) []
filter_more p a zero m e = ap (λ v. cond (p v) (v ∷ []) []) (sym (add-zero a) ∙ e)
filter_more p a (suc n) m e =
    ap (λ xs. cond (p a) (a ∷ xs) xs) (filter_more p (a + 1) n m (omega arith))
    ∙ front (p a) a (filter p (range_with_len (a + 1) n)) (cond (p m) (m ∷ []) [])

-- the cells of the set s below end
below : ℕ → ℕ → List ℕ
below s end = filter (has s) (range_with_len 0 end)

below_more : (s end : ℕ) → below s (end + 1) ≡ below s end ++ cond (has s end) (end ∷ []) []
unfolding below
below_more s end = ap (λ v. filter (has s) (range_with_len 0 v)) (add-one end)
    ∙ filter_more (has s) 0 end end (omega arith)

few_below : (s end : ℕ) → length (below s end) ≤ end
unfolding below
few_below s end
    = omega (arith, length-filter (has s) (range_with_len 0 end), count_by-le-length (has s) (range_with_len 0 end), length-range_with_len 0 end)

-- the first count cells of the list are those of the set s below end
pub record Listed (s : ℕ) (cells : List ℕ) (count end : ℕ) : Type 0 where
  pub items : take count cells ≡ filter (has s) (range_with_len 0 end)
  pub many : count ≡ length (filter (has s) (range_with_len 0 end))
  pub size : length cells ≡ 121

pub listed_few : (s : ℕ) (cells : List ℕ) (count end : ℕ) → Listed s cells count end → count ≤ end
unfolding below
listed_few s cells count end l = omega (arith, l.many, few_below s end)

pub cell_kept : (s : ℕ) (cells : List ℕ) (count end c : ℕ) → Listed s cells count end → end < 121
    → c ≡ end → has s c ≡ true → Listed s (set cells count c) (count + 1) (end + 1)
unfolding below
cell_kept s cells count end c l h e t =
    let more : below s (end + 1) ≡ below s end ++ end ∷ [] = below_more s end
    ∙ ap (λ b. below s end ++ cond b (end ∷ []) []) (ap (λ v. has s v) (sym e) ∙ t) in
    record {
      items = take_more_set cells count c (omega (arith, listed_few s cells count end l, l.size))
          ∙ (ap (λ xs. xs ++ c ∷ []) l.items ∙ (ap (λ v. below s end ++ v ∷ []) e ∙ sym more));
      many = ap (λ v. v + 1) l.many
          ∙ (sym (length-append (below s end) (end ∷ [])) ∙ ap length (sym more));
      size = length-set cells count c ∙ l.size;
    }

pub cell_passed : (s : ℕ) (cells : List ℕ) (count end c : ℕ) → Listed s cells count end → c ≡ end
    → has s c ≡ false → Listed s (set cells count c) count (end + 1)
unfolding below
cell_passed s cells count end c l e t =
    let same : below s (end + 1) ≡ below s end =
    below_more s end
    ∙ (ap (λ b. below s end ++ cond b (end ∷ []) []) (ap (λ v. has s v) (sym e) ∙ t) ∙ append-nil (below s end)) in
    record {
      items = take-set cells count c ∙ (l.items ∙ sym same);
      many = l.many ∙ ap length (sym same);
      size = length-set cells count c ∙ l.size;
    }

-- a cell more, if the lowest bit of the rest tells whether the set has it
pub listed_next : (s rest : ℕ) (cells : List ℕ) (count end c : ℕ) → Listed s cells count end
    → rest ≡ s / 2 ^ end → end < 121 → c ≡ end
    → Listed s (set cells count c) (count + bit_and rest 1) (end + 1)
listed_next s rest cells count end c l r h e =
    let test : (bit_and rest 1 == 1) ≡ has s end = ap (λ v. bit_and v 1 == 1) r ∙ has_test s end in
    let low : bit_and rest 1 ≤ 1 = and_le_r rest 1 in
    elim (cases_Bool (has s end)) [
      | inl t ↦ let one : bit_and rest 1 ≡ 1 = eqb-true (bit_and rest 1) 1 (test ∙ t) in
          subst (λ n. Listed s (set cells count c) (count + n) (end + 1)) (sym one)
          (cell_kept s cells count end c l h e (ap (has s) e ∙ t))
      | inr f ↦ let other = eqb-false (bit_and rest 1) 1 (test ∙ f) in
          let same : count + bit_and rest 1 ≡ count = omega (arith, low, other) in
          subst (λ n. Listed s (set cells count c) n (end + 1)) (sym same)
          (cell_passed s cells count end c l e (ap (has s) e ∙ f))
    ]

-- ---- four cells more

mapped : (b : Bool) (e a : ℕ) (xs : List ℕ)
    → cond b ((e + a) ∷ map (λ j. e + j) xs) (map (λ j. e + j) xs) ≡ map (λ j. e + j)
    (cond b (a ∷ xs) xs)
mapped true e a xs = refl
mapped false e a xs = refl

-- a filter of a range that begins higher
moved : (p q : ℕ → Bool) (e a n : ℕ) → ((j : ℕ) → a ≤ j → j < a + n → p (e + j) ≡ q j)
    → filter p (range_with_len (e + a) n) ≡ map (λ j. e + j) (filter q (range_with_len a n))
moved p q e a zero f = refl
moved p q e a (suc n) f =
    let next : e + a + 1 ≡ e + (a + 1) = omega arith in
    let rest : filter p (range_with_len (e + a + 1) n) ≡ map (λ j. e + j)
    (filter q (range_with_len (a + 1) n)) =
    ap (λ v. filter p (range_with_len v n)) next
    ∙ moved p q e (a + 1) n (λ j l h. f j (omega (arith, l)) (omega (arith, h))) in
    (λ i. cond (f a (omega arith) (omega arith) i) ((e + a) ∷ rest i) (rest i))
    ∙ mapped (q a) e a (filter q (range_with_len (a + 1) n))

-- four cells of a set, by the bits of a number below 16
quarter : (s e : ℕ) → filter (has s) (range_with_len e 4) ≡ map (λ j. e + j)
    (bits_of (s / 2 ^ e % 16))
quarter s e =
    let same : e ≡ e + 0 = omega arith in
    ap (λ v. filter (has s) (range_with_len v 4)) same
    ∙ moved (has s) (has (s / 2 ^ e % 16)) e 0 4 (λ j l h.
    let turned : e + j ≡ j + e = omega arith in
    ap (has s) turned ∙ (sym (has_shr s e j) ∙ sym (has_mod (s / 2 ^ e) 4 j (omega (arith, h)))))

pub listed_four : (s : ℕ) (cells next : List ℕ) (count end m four : ℕ) → Listed s cells count end
    → four ≡ s / 2 ^ end % 16 → length next ≡ 121
    → take m next ≡ take count cells ++ map (λ j. end + j) (bits_of four)
    → m ≡ count + length (bits_of four) → Listed s next m (end + 4)
listed_four s cells next count end m four l e size t c =
    let bits : map (λ j. end + j) (bits_of four) ≡ filter (has s) (range_with_len end 4)
    = ap (λ n. map (λ j. end + j) (bits_of n)) e ∙ sym (quarter s end) in
    let whole : filter (has s) (range_with_len 0 (end + 4)) ≡ filter (has s)
    (range_with_len 0 end) ++ filter (has s) (range_with_len end 4) =
    two_pass (has s) 0 end 4
    ∙ ap (λ v. filter (has s) (range_with_len 0 end) ++ filter (has s) (range_with_len v 4))
    (zero-add end) in
    record {
      items = t ∙ ((λ i. l.items i ++ bits i) ∙ sym whole);
      many = c ∙ (ap (λ v. v + length (bits_of four)) l.many
          ∙ (ap (λ v. length (filter (has s) (range_with_len 0 end)) + v) (sym (length-map (bits_of four) (λ j. end + j)) ∙ ap length bits)
          ∙ (sym (length-append (filter (has s) (range_with_len 0 end)) (filter (has s) (range_with_len end 4))) ∙ ap length (sym whole))));
      size = size;
    }

pub rest_next : (s rest k : ℕ) → rest ≡ s / 2 ^ (4 * k) → rest / 16 ≡ s / 2 ^ (4 * (k + 1))
rest_next s rest k e =
    let sum : 4 * k + 4 ≡ 4 * (k + 1) = omega arith in
    ap (λ v. v / 16) e
    ∙ (div-div-eq-div-mul s (2 ^ (4 * k)) 16 ∙ (ap (λ v. s / v) (sym (pow-add 2 (4 * k) 4)) ∙ ap (λ v. s / 2 ^ v) sum))

-- ---- the whole board

-- the cells of a set below the last are those of the board that it lies on
on_board : (s n end : ℕ) → n ≤ end → ((k : ℕ) → n ≤ k → has s k ≡ false)
    → filter (has s) (range_with_len 0 end) ≡ filter (has s) (range_with_len 0 n)
on_board s n end l f =
    let e : end ≡ n + (end - n) = omega (arith, l) in
    let none = none_pass (has s) (0 + n) (end - n) (λ k m. f k (omega (arith, m))) in
    let kept : List ℕ = filter (has s) (range_with_len 0 n) in
    ap (λ v. filter (has s) (range_with_len 0 v)) e ∙ (two_pass (has s) 0 n (end - n)
    ∙ (ap (λ xs. kept ++ xs) none ∙ append-nil kept))

-- all cells are the empty ones
pub all_empties : (p : Position) (s end : ℕ) → p.size * p.size ≤ end
    → ((k : ℕ) → has s k ≡ is_empty_at p k)
    → filter (has s) (range_with_len 0 end) ≡ empties_of p
unfolding empties_of
all_empties p s end l f =
    on_board s (p.size * p.size) end l (λ k m. f k ∙ off_board p k m)
    ∙ filter_agree (has s) (is_empty_at p) f (cells_of p.size)
