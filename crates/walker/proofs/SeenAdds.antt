-- The adds to the seen words of the cells of a block, by halves.
use Rattle.std.proofs.Common.{◌≡◌, ℕ, zero, suc, ◌+◌, ◌*◌, ◌<◌, ◌≤◌, Bool, true, false, cond, List}
use Rattle.std.proofs.Common.{[], ◌∷◌, ◌++◌, length, map, ◌-◌, ◌/◌, ◌%◌, ◌^◌, refl, sym, ap, ◌∙◌}
use Rattle.std.proofs.Common.{arith, ⊎_elim}
use Rattle.std.specs.Prelude.{◌&&◌, ◌==◌, not, nat_lt, count_ones}
use Rattle.std.specs.List.{filter, range_with_len}
use Rattle.std.proofs.lemmas.Bool.{cases_Bool}
use Rattle.std.proofs.lemmas.Bool.Decides.{nat_tests}
use Rattle.std.proofs.lemmas.List.{map-append}
use Rattle.hex_cells.specs.Sets.{has as has_cell, members}
use Rattle.hex_cells.proofs.Bits.{has_mod, has_shr}
use Rattle.hex_cells.proofs.Filters.{least_pass, longer_pass, none_pass, two_pass}
use Rattle.hex_cells.proofs.Counts.{members_none, members_ones}
use Rattle.tree_words.proofs.Blocks.BlockLaws.{clash}
use Rattle.tree_words.proofs.Boards.RootLaws.{filter_some}
use Rattle.arena_rule.specs.Adds.{CountAdd, seen_adds}
use Rattle.walker.specs.Climbs.{half_adds}
use Rattle.walker.proofs.MemberLaws.{in-more, out-more, members-low, members-high}

-- no cell is left
pub adds-none : (first : ℕ) (won : Bool) (cells left : ℕ) → ((i : ℕ) → has_cell left i ≡ false)
    → half_adds first won cells left ≡ []
unfolding half_adds
adds-none first won cells left h
    = ap (map (λ k. record { word = first + 4 * members cells k; won = won }))
    (none_pass (has_cell left) 0 64 (λ i l. h i))

-- the least cell that is left is the next
pub adds-next : (first : ℕ) (won : Bool) (cells left rest c : ℕ) → c < 64 → has_cell left c ≡ true
    → ((i : ℕ) → i < c → has_cell left i ≡ false)
    → ((i : ℕ) → has_cell rest i ≡ (has_cell left i && not (i == c)))
    → half_adds first won cells left ≡ record { word = first + 4 * members cells c; won = won } ∷ half_adds first won cells rest
unfolding half_adds
adds-next first won cells left rest c l t below out =
    ap (map (λ k. record { word = first + 4 * members cells k; won = won }))
    (least_pass (has_cell left) (has_cell rest) 0 64 c (omega arith) (omega arith) t below out)

-- some number passes
pub none-cons : (p : ℕ → Bool) (a n k : ℕ) → a ≤ k → k < a + n → p k ≡ true
    → filter p (range_with_len a n) ≡ [] → ⊥
none-cons p a n k l m t e = let some = filter_some p a n k t l m in
    let none : length (filter p (range_with_len a n)) ≡ 0 = ap length e in omega (arith, some, none)

-- if a cell is left, so is an add
pub adds-some : (first : ℕ) (won : Bool) (cells left c : ℕ) → c < 64 → has_cell left c ≡ true
    → half_adds first won cells left ≡ [] → ⊥
unfolding half_adds
adds-some first won cells left c l t e =
    none-cons (has_cell left) 0 64 c (omega arith) (omega arith) t
    (no-map (λ (k : ℕ). record { word = first + 4 * members cells k; won = won }) (filter (has_cell left) (range_with_len 0 64)) e)
  where
    no-map : (f : ℕ → CountAdd) (xs : List ℕ) → map f xs ≡ [] → xs ≡ []
    no-map f [] e = refl
    no-map f (x ∷ xs) e
        = absurd (let n : suc (length (map f xs)) ≡ 0 = ap length e in omega (arith, n))

-- a range from d on, told by the numbers less d
moved : (f g : ℕ → CountAdd) (p q : ℕ → Bool) (d a n : ℕ)
    → ((i : ℕ) → a ≤ i → i < a + n → p (d + i) ≡ q i)
    → ((i : ℕ) → a ≤ i → i < a + n → f (d + i) ≡ g i)
    → map f (filter p (range_with_len (d + a) n)) ≡ map g (filter q (range_with_len a n))
moved f g p q d a zero same is = refl
moved f g p q d a (suc n) same is =
    let rest : map f (filter p (range_with_len (d + a + 1) n)) ≡ map g
    (filter q (range_with_len (a + 1) n))
    = ap (λ (z : ℕ). map f (filter p (range_with_len z n))) (shift d a)
    ∙ moved f g p q d (a + 1) n (λ i l m. same i (omega arith) (omega arith))
    (λ i l m. is i (omega arith) (omega arith)) in
    ap (λ (t : Bool). map f (cond t ((d + a) ∷ filter p (range_with_len (d + a + 1) n))
    (filter p (range_with_len (d + a + 1) n)))) (same a (omega arith) (omega arith))
    ∙ first (q a) (d + a) a (filter p (range_with_len (d + a + 1) n))
    (filter q (range_with_len (a + 1) n)) (is a (omega arith) (omega arith)) rest
  where
    shift : (d a : ℕ) → d + a + 1 ≡ d + (a + 1)
    shift d a = omega arith

    first : (t : Bool) (x y : ℕ) (xs ys : List ℕ) → f x ≡ g y → map f xs ≡ map g ys
        → map f (cond t (x ∷ xs) xs) ≡ map g (cond t (y ∷ ys) ys)
    first true x y xs ys e r = λ i. e i ∷ r i
    first false x y xs ys e r = r

-- the seen adds of the cells from a on, if the first node of all cells begins at b
module _ (stones cells left b : ℕ) (won : Bool) where
  abbrev add-at : ℕ → CountAdd
  add-at k = record { word = b + 3 + 4 * members cells k; won = won }

  join : (t u : Bool) → u ≡ t → (x : CountAdd) (xs : List CountAdd) (i : ℕ) (is : List ℕ)
      → x ≡ add-at i → xs ≡ map add-at is
      → cond t (x ∷ xs) xs ≡ map add-at (cond u (i ∷ is) is)
  join true true e x xs i is h k = λ j. h j ∷ k j
  join true false e x xs i is h k = absurd (clash false (sym (sym e)) refl)
  join false true e x xs i is h k = absurd (clash true refl e)
  join false false e x xs i is h k = k

  seen-from : (a n : ℕ)
      → ((k : ℕ) → a ≤ k → k < a + n → has_cell left k ≡ (has_cell cells k && has_cell stones k))
      → seen_adds stones won (b + 4 * members cells a)
      (filter (has_cell cells) (range_with_len a n)) ≡ map add-at
      (filter (has_cell left) (range_with_len a n))
  seen-from a zero h = refl
  seen-from a (suc n) h =
      let cs : List ℕ = filter (has_cell cells) (range_with_len (a + 1) n) in
      let is : List ℕ = filter (has_cell left) (range_with_len (a + 1) n) in
      let y : ℕ = b + 4 * members cells a in
      let rest : seen_adds stones won (b + 4 * members cells (a + 1)) cs ≡ map add-at is
      = seen-from (a + 1) n (λ k l m. h k (omega arith) (omega arith)) in
      let here : has_cell left a ≡ (has_cell cells a && has_cell stones a)
      = h a (omega arith) (omega arith) in
      ⊎_elim
      (λ (t : has_cell cells a ≡ true).
      let on : y + 4 ≡ b + 4 * members cells (a + 1) = omega (arith, in-more cells a t) in
      ap (λ (u : Bool). seen_adds stones won y (cond u (a ∷ cs) cs)) t
      ∙ join (has_cell stones a) (has_cell left a)
      (here ∙ ap (λ (u : Bool). u && has_cell stones a) t)
      (record { word = y + 3; won = won }) (seen_adds stones won (y + 4) cs) a is
      (let w : y + 3 ≡ b + 3 + 4 * members cells a = omega arith in λ i. record {
        word = w i;
        won =
            won;
      }) (ap (λ (z : ℕ). seen_adds stones won z cs) on ∙ rest))
      (λ (t : has_cell cells a ≡ false).
      let on : y ≡ b + 4 * members cells (a + 1) = omega (arith, out-more cells a t) in
      ap (λ (u : Bool). seen_adds stones won y (cond u (a ∷ cs) cs)) t
      ∙ ((ap (λ (z : ℕ). seen_adds stones won z cs) on ∙ rest)
      ∙ sym (ap (λ (u : Bool). map add-at (cond u (a ∷ is) is)) (here ∙ ap (λ (u : Bool). u && has_cell stones a) t))))
      (cases_Bool (has_cell cells a))

-- the seen adds of the cells of a board by halves
pub adds-seen : (stones cells left n block first next : ℕ) (won : Bool) → n ≤ 121
    → ((k : ℕ) → has_cell left k ≡ ((has_cell cells k && has_cell stones k) && nat_lt k n))
    → first ≡ block + 7 → next ≡ first + 4 * count_ones (cells % 2 ^ 64)
    → half_adds first won (cells % 2 ^ 64) (left % 2 ^ 64) ++ half_adds next won (cells / 2 ^ 64)
    (left / 2 ^ 64)
    ≡ seen_adds stones won (block + 4) (filter (has_cell cells) (range_with_len 0 n))
unfolding half_adds
adds-seen stones cells left n block first next won few here is on =
    let f : ℕ → CountAdd = add-at stones cells left (block + 4) won in
    let begins : block + 4 + 4 * members cells 0 ≡ block + 4 = omega (arith, members_none cells) in
    let all : seen_adds stones won (block + 4)
    (filter (has_cell cells) (range_with_len 0 n)) ≡ map f
    (filter (has_cell left) (range_with_len 0 n))
    = ap (λ (z : ℕ). seen_adds stones won z (filter (has_cell cells) (range_with_len 0 n)))
    (sym begins)
    ∙ seen-from stones cells left (block + 4) won 0 n
    (λ k l m. here k ∙ and-below (has_cell cells k && has_cell stones k) k n (omega arith)) in
    let wide : n + (128 - n) ≡ 64 + 64 = omega arith in
    let long : filter (has_cell left) (range_with_len 0 n) ≡ filter (has_cell left)
    (range_with_len 0 64) ++ filter (has_cell left) (range_with_len (0 + 64) 64)
    = sym (longer_pass (has_cell left) 0 n (128 - n) (λ i l. here i ∙ and-past (has_cell cells i && has_cell stones i) i n (omega arith)))
    ∙ (ap (λ (z : ℕ). filter (has_cell left) (range_with_len 0 z)) wide ∙ two_pass (has_cell left) 0 64 64) in
    let low : map f (filter (has_cell left) (range_with_len (0 + 0) 64)) ≡ half_adds first won
    (cells % 2 ^ 64) (left % 2 ^ 64)
    = moved f (λ k. record { word = first + 4 * members (cells % 2 ^ 64) k; won = won })
    (has_cell left) (has_cell (left % 2 ^ 64)) 0 0 64
    (λ i l m. ap (has_cell left) (none-plus i) ∙ sym (has_mod left 64 i (omega arith)))
    (λ i l m. let w : block + 4 + 3 + 4 * members cells (0 + i) ≡ first + 4 * members (cells % 2 ^ 64) i
    = omega (arith, is, ap (members cells) (none-plus i), members-low cells 64 i (omega arith)) in
    λ j. record { word = w j; won = won }) in
    let high : map f (filter (has_cell left) (range_with_len (64 + 0) 64)) ≡ half_adds next won
    (cells / 2 ^ 64) (left / 2 ^ 64)
    = moved f (λ k. record { word = next + 4 * members (cells / 2 ^ 64) k; won = won })
    (has_cell left) (has_cell (left / 2 ^ 64)) 64 0 64
    (λ i l m. ap (has_cell left) (turned i) ∙ sym (has_shr left 64 i))
    (λ i l m. let w : block + 4 + 3 + 4 * members cells (64 + i) ≡ next + 4 * members (cells / 2 ^ 64) i
    = omega (arith, is, on, members-high cells 64 i, members_ones cells 64) in
    λ j. record { word = w j; won = won }) in
    sym (all ∙ (ap (map f) long ∙ (map-append f (filter (has_cell left) (range_with_len 0 64))
    (filter (has_cell left) (range_with_len (0 + 64) 64)) ∙ (λ i. low i ++ high i))))
  where
    none-plus : (i : ℕ) → 0 + i ≡ i
    none-plus i = omega arith

    turned : (i : ℕ) → 64 + i ≡ i + 64
    turned i = omega arith

    and-below : (b : Bool) (k n : ℕ) → k < n → (b && nat_lt k n) ≡ b
    and-below b k n l = grind (arith, nat_tests)

    and-past : (b : Bool) (k n : ℕ) → n ≤ k → (b && nat_lt k n) ≡ false
    and-past b k n l = grind (arith, nat_tests)

-- the same with the halves as the code has them
pub adds-halves : (stones cells left n block first next low high low-left high-left : ℕ)
    (won : Bool) → n ≤ 121
    → ((k : ℕ) → has_cell left k ≡ ((has_cell cells k && has_cell stones k) && nat_lt k n))
    → low ≡ cells % 2 ^ 64 → high ≡ cells / 2 ^ 64 → low-left ≡ left % 2 ^ 64
    → high-left ≡ left / 2 ^ 64
    → first ≡ block + 7 → next ≡ first + 4 * count_ones low
    → half_adds first won low low-left ++ half_adds next won high high-left ≡ seen_adds stones won
    (block + 4) (filter (has_cell cells) (range_with_len 0 n))
adds-halves stones cells left n block first next low high low-left high-left won few here a b c d is on =
    (λ i. half_adds first won (a i) (c i) ++ half_adds next won (b i) (d i))
    ∙ adds-seen stones cells left n block first next won few here is
    (on ∙ ap (λ v. first + 4 * count_ones v) a)
