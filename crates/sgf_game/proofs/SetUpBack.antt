-- The start stones of a record are read back.
use Rattle.std.proofs.Math.Bool.{or-true}
use Rattle.std.proofs.Common.{◌≡◌, ℕ, ◌+◌, ◌*◌, ◌<◌, ◌≤◌, ◌==◌, ◌||◌, Bool, true, false, cond, List}
use Rattle.std.proofs.Common.{[], ◌∷◌, ◌++◌, Some, map, flat_map, refl, sym, ap, ◌∙◌, subst, arith}
use Rattle.std.proofs.Common.{inl, inr, zero, suc, append-nil}
use Rattle.std.specs.Prelude.{Option, codes, filter, is_none}
use Rattle.std.specs.List.{list_any, range_with_len}
use Rattle.std.specs.Str.{bytes_eq}
use Rattle.std.proofs.lemmas.Bool.{cases_Bool, cases_eq, eqb-true, false_from_ne_true, both_ways}
use Rattle.std.proofs.lemmas.Bool.Decides.{nat_tests}
use Rattle.hex_cells.specs.Sets.{has}
use Rattle.hex_cells.specs.Vertices.{vertex_of, vertex_cell, vertices_of}
use Rattle.hex_cells.proofs.Bits.{has_none, same_set}
use Rattle.hex_cells.proofs.Naming.{read_back}
use Rattle.hex_board.specs.Joined.{cells_of}
use Rattle.hex_board.specs.Positions.{Apart, Within, Position}
use Rattle.sgf_tree.specs.declared.lists.Prop.{Prop}
use Rattle.sgf_game.specs.Values.{trimmed, values_if, has_named}
use Rattle.sgf_game.specs.Lines.{entries_in, entries_if}
use Rattle.sgf_game.specs.Setup.{is_cell, is_in, has_twice, are_misplaced, with_cells, cells_named}
use Rattle.sgf_game.specs.Setup.{set_up_cells, start_of}
use Rattle.sgf_game.specs.Record.{prop_if, root_of}
use Rattle.sgf_game.proofs.Lists.{any_append}
use Rattle.sgf_game.proofs.Placing.{AreCells, has_cells, twice_append}
use Rattle.sgf_game.proofs.Spelled.{trim_vertex}

-- ---- the cells that are read

abbrev some_cells : List ℕ → List (Option ℕ)
some_cells ks = map (λ k. Some k) ks

read_again : (n : ℕ) (p : ℕ → Bool) (a m : ℕ) → n ≤ 11 → a + m ≤ n * n
    → map (vertex_cell n)
    (map trimmed (map (vertex_of n) (filter p (range_with_len a m)))) ≡ some_cells
    (filter p (range_with_len a m))
read_again n p a zero h l = refl
read_again n p a (suc m) h l = one (p a) (read_again n p (a + 1) m h (omega arith))
  where
    one : (b : Bool)
        → map (vertex_cell n)
        (map trimmed (map (vertex_of n) (filter p (range_with_len (a + 1) m)))) ≡ some_cells
        (filter p (range_with_len (a + 1) m))
        → map (vertex_cell n)
        (map trimmed (map (vertex_of n) (cond b (a ∷ filter p (range_with_len (a + 1) m)) (filter p (range_with_len (a + 1) m)))))
        ≡ some_cells
        (cond b (a ∷ filter p (range_with_len (a + 1) m)) (filter p (range_with_len (a + 1) m)))
    one true e =
        let on : a < n * n = omega arith in
        let here : vertex_cell n (trimmed (vertex_of n a)) ≡ Some a
        = ap (vertex_cell n) (trim_vertex n a h on) ∙ read_back n a h on in
        ap (λ c. c ∷ map (vertex_cell n) (map trimmed (map (vertex_of n) (filter p (range_with_len (a + 1) m))))) here ∙ ap (λ cs. Some a ∷ cs) e
    one false e = e

-- the cells that the vertices of a set are read as
pub cells_again : (n s : ℕ) → n ≤ 11
    → map (vertex_cell n) (map trimmed (vertices_of n s)) ≡ some_cells (filter (has s) (cells_of n))
cells_again n s h = read_again n (has s) 0 (n * n) h (omega arith)

cells_on : (n : ℕ) (p : ℕ → Bool) (a m : ℕ) → a + m ≤ n * n
    → AreCells n (some_cells (filter p (range_with_len a m)))
cells_on n p a zero l = tt
cells_on n p a (suc m) l = one (p a) (cells_on n p (a + 1) m (omega arith))
  where
    one : (b : Bool) → AreCells n (some_cells (filter p (range_with_len (a + 1) m)))
        → AreCells n
        (some_cells (cond b (a ∷ filter p (range_with_len (a + 1) m)) (filter p (range_with_len (a + 1) m))))
    one true h = (omega arith, h)
    one false h = h

no_none : (ks : List ℕ) → list_any is_none (some_cells ks) ≡ false
no_none [] = refl
no_none (k ∷ ks) = no_none ks

-- ---- what is in them

in_passes : (p : ℕ → Bool) (a m j : ℕ)
    → list_any (is_cell j) (some_cells (filter p (range_with_len a m))) ≡ true
    → (a ≤ j) × (p j ≡ true)
in_passes p a zero j e = absurd (cc)
in_passes p a (suc m) j e = elim (cases_Bool (p a)) [
  | inl t ↦ let f = rw t at e in elim (cases_Bool (a == j)) [
    | inl s ↦ let same : a ≡ j = eqb-true a j s in (omega arith, subst (λ k. p k ≡ true) same t)
    | inr s ↦ let more = in_passes p (a + 1) m j (rw s at f) in (omega (arith, more.0), more.1)
  ]
  | inr t ↦ let more = in_passes p (a + 1) m j (rw t at e) in (omega (arith, more.0), more.1)
]

passes_in : (p : ℕ → Bool) (a m j : ℕ) → a ≤ j → j < a + m → p j ≡ true
    → list_any (is_cell j) (some_cells (filter p (range_with_len a m))) ≡ true
passes_in p a zero j l h t = absurd (omega arith)
passes_in p a (suc m) j l h t = elim (cases_eq a j) [
  | inl q ↦ let here : p a ≡ true = ap p q ∙ t in
      let same : (a == j) ≡ true = grind (arith, nat_tests) in rw here (rw same refl)
  | inr q ↦ let more : list_any (is_cell j)
      (some_cells (filter p (range_with_len (a + 1) m))) ≡ true
      = passes_in p (a + 1) m j (omega arith) (omega arith) t in
      one (p a) more
]
  where
    one : (b : Bool)
        → list_any (is_cell j) (some_cells (filter p (range_with_len (a + 1) m))) ≡ true
        → list_any (is_cell j)
        (some_cells (cond b (a ∷ filter p (range_with_len (a + 1) m)) (filter p (range_with_len (a + 1) m)))) ≡ true
    one true e = ap (λ b. (a == j) || b) e ∙ or-true (a == j)
    one false e = e

in_is : (n s j : ℕ) → Within n s
    → list_any (is_cell j) (some_cells (filter (has s) (cells_of n))) ≡ has s j
in_is n s j w = elim (cases_Bool (has s j)) [
  | inl t ↦ passes_in (has s) 0 (n * n) j (omega arith) (omega (arith, w j t)) t ∙ sym t
  | inr t ↦ false_from_ne_true _
      (λ e. both_ways (has s j) t (in_passes (has s) 0 (n * n) j e).1) ∙ sym t
]

-- the set of the cells of a set is the set
pub set_again : (n s : ℕ) → n ≤ 11 → Within n s
    → with_cells 0 (some_cells (filter (has s) (cells_of n))) ≡ s
set_again n s h w = same_set _ s (λ k.
    has_cells n 0 k (some_cells (filter (has s) (cells_of n))) h
    (cells_on n (has s) 0 (n * n) (omega arith))
    ∙ ap (λ b. b || list_any (is_cell k) (some_cells (filter (has s) (cells_of n)))) (has_none k)
    ∙ in_is n s k w)

once : (p : ℕ → Bool) (a m : ℕ) → has_twice (some_cells (filter p (range_with_len a m))) ≡ false
once p a zero = refl
once p a (suc m) = one (p a) (once p (a + 1) m)
  where
    one : (b : Bool) → has_twice (some_cells (filter p (range_with_len (a + 1) m))) ≡ false
        → has_twice (some_cells (cond b (a ∷ filter p (range_with_len (a + 1) m)) (filter p (range_with_len (a + 1) m)))) ≡ false
    one true e =
        let past : list_any (is_cell a) (some_cells (filter p (range_with_len (a + 1) m))) ≡ false =
        false_from_ne_true _
        (λ f. let late = in_passes p (a + 1) m a f in absurd (omega (arith, late.0))) in rw past e
    one false e = e

none_shared : (n b w : ℕ) (ks : List ℕ) → Within n b → Apart b w
    → ((k : ℕ) → list_any (is_cell k) (some_cells ks) ≡ true → has w k ≡ true)
    → list_any (is_in (some_cells (filter (has b) (cells_of n)))) (some_cells ks) ≡ false
none_shared n b w [] h a f = refl
none_shared n b w (k ∷ ks) h a f =
    let here : has w k ≡ true = f k (rw (same k) refl) in
    let free : list_any (is_cell k) (some_cells (filter (has b) (cells_of n))) ≡ false
    = in_is n b k h ∙ false_from_ne_true (has b k) (λ t. a k t here) in
    rw free (none_shared n b w ks h a (λ j e. f j (ap (λ c. (k == j) || c) e ∙ or-true (k == j))))
  where
    same : (k : ℕ) → (k == k) ≡ true
    same k = grind (arith, nat_tests)

all_false : (a b c d e : Bool) → a ≡ false → b ≡ false → c ≡ false → d ≡ false → e ≡ false
    → ((a || b) || (c || (d || e))) ≡ false
all_false a b c d e f g h i j = rw (f, g, h, i, j) refl

-- no cell of two sets that are apart is misplaced
pub none_misplaced : (n b w : ℕ) → Within n b → Within n w → Apart b w
    → are_misplaced
    (some_cells (filter (has b) (cells_of n)) ++ some_cells (filter (has w) (cells_of n))) ≡ false
none_misplaced n b w h k a =
    let black = filter (has b) (cells_of n) in
    let white = filter (has w) (cells_of n) in
    ap (λ x. x || has_twice (some_cells black ++ some_cells white))
    (any_append is_none (some_cells black) (some_cells white))
    ∙ ap (λ x. (list_any is_none (some_cells black) || list_any is_none (some_cells white)) || x)
    (twice_append (some_cells black) (some_cells white))
    ∙ all_false _ _ _ _ _ (no_none black) (no_none white) (once (has b) 0 (n * n))
    (once (has w) 0 (n * n))
    (none_shared n b w white h a (λ j e. (in_passes (has w) 0 (n * n) j e).1))

-- ---- the root's properties

black_values : (bs ws : List (List ℕ))
    → flat_map (values_if (codes "AB"))
    (prop_if (codes "AB") bs ++ prop_if (codes "AW") ws) ≡ map trimmed bs
black_values [] [] = refl
black_values [] (w ∷ ws) = refl
black_values (b ∷ bs) [] = append-nil (map trimmed (b ∷ bs))
black_values (b ∷ bs) (w ∷ ws) = append-nil (map trimmed (b ∷ bs))

white_values : (bs ws : List (List ℕ))
    → flat_map (values_if (codes "AW"))
    (prop_if (codes "AB") bs ++ prop_if (codes "AW") ws) ≡ map trimmed ws
white_values [] [] = refl
white_values [] (w ∷ ws) = append-nil (map trimmed (w ∷ ws))
white_values (b ∷ bs) [] = refl
white_values (b ∷ bs) (w ∷ ws) = append-nil (map trimmed (w ∷ ws))

no_entries : (bs ws : List (List ℕ))
    → flat_map entries_if (prop_if (codes "AB") bs ++ prop_if (codes "AW") ws) ≡ []
no_entries [] [] = refl
no_entries [] (w ∷ ws) = refl
no_entries (b ∷ bs) [] = refl
no_entries (b ∷ bs) (w ∷ ws) = refl

-- the root has no move
pub root_entries : (start : Position) → entries_in (root_of start) ≡ []
root_entries start = no_entries (vertices_of start.size start.black)
    (vertices_of start.size start.white)

none_removed : (bs ws : List (List ℕ)) → list_any (λ (p : Prop). bytes_eq p.name (codes "AE"))
    (prop_if (codes "AB") bs ++ prop_if (codes "AW") ws) ≡ false
none_removed [] [] = refl
none_removed [] (w ∷ ws) = refl
none_removed (b ∷ bs) [] = refl
none_removed (b ∷ bs) (w ∷ ws) = refl

pub root_removes_none : (start : Position) → has_named (codes "AE") (root_of start) ≡ false
root_removes_none start = none_removed (vertices_of start.size start.black)
    (vertices_of start.size start.white)

pub black_cells : (start : Position) → start.size ≤ 11
    → cells_named start.size (codes "AB") (root_of start) ≡ some_cells
    (filter (has start.black) (cells_of start.size))
black_cells start h
    = ap (map (vertex_cell start.size))
    (black_values (vertices_of start.size start.black) (vertices_of start.size start.white))
    ∙ cells_again start.size start.black h

pub white_cells : (start : Position) → start.size ≤ 11
    → cells_named start.size (codes "AW") (root_of start) ≡ some_cells
    (filter (has start.white) (cells_of start.size))
white_cells start h
    = ap (map (vertex_cell start.size))
    (white_values (vertices_of start.size start.black) (vertices_of start.size start.white))
    ∙ cells_again start.size start.white h

pub root_well_placed : (start : Position) → start.size ≤ 11 → Within start.size start.black
    → Within start.size start.white → Apart start.black start.white
    → are_misplaced (set_up_cells start.size (root_of start)) ≡ false
root_well_placed start h b w a =
    ap (λ cs. are_misplaced (cs ++ cells_named start.size (codes "AW") (root_of start)))
    (black_cells start h)
    ∙ ap (λ cs. are_misplaced (some_cells (filter (has start.black) (cells_of start.size)) ++ cs))
    (white_cells start h)
    ∙ none_misplaced start.size start.black start.white b w a

-- the start board is read back
pub start_again : (start : Position) → start.size ≤ 11 → Within start.size start.black
    → Within start.size start.white → start_of start.size (root_of start) ≡ start
start_again start h b w =
    ap (λ s. record { size = start.size; black = s; white = with_cells 0 (cells_named start.size (codes "AW") (root_of start)) })
    (ap (with_cells 0) (black_cells start h) ∙ set_again start.size start.black h b)
    ∙ ap (λ s. record { size = start.size; black = start.black; white = s })
    (ap (with_cells 0) (white_cells start h) ∙ set_again start.size start.white h w)
