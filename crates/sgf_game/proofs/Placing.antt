-- Stones that are placed one after the other are those of cells that are none of them off the
-- board, and none twice.
use Rattle.std.proofs.Math.Bool.{or-true, or_assoc}
use Rattle.std.proofs.Common.{◌≡◌, ℕ, ◌+◌, ◌*◌, ◌<◌, ◌≤◌, ◌==◌, ◌||◌, Bool, true, false, cond, List}
use Rattle.std.proofs.Common.{[], ◌∷◌, ◌++◌, Some, None, map, length, get_or, drop, add-one, refl}
use Rattle.std.proofs.Common.{sym, ap, ◌∙◌, subst, arith, inl, inr, zero, suc}
use Rattle.std.specs.Prelude.{Option, is_none}
use Rattle.std.specs.List.{list_any, find, range_with_len}
use Rattle.std.specs.Str.{bytes_eq}
use Rattle.std.proofs.lemmas.List.{map-append}
use Rattle.std.proofs.Math.Seq.{drop-cons}
use Rattle.std.proofs.lemmas.Bool.{cases_Bool, eqb-true}
use Rattle.std.proofs.lemmas.Bool.Decides.{nat_tests}
use Rattle.hex_cells.specs.Sets.{has, with_cell}
use Rattle.hex_cells.specs.Vertices.{vertex_cell}
use Rattle.hex_cells.proofs.Bits.{has_none}
use Rattle.hex_board.specs.Positions.{Apart, Within}
use Rattle.hex_cells.proofs.WithCell.{has_with_cell, same_eq}
use Rattle.hex_cells.proofs.Tables.{board_cell}
use Rattle.sgf_tree.specs.declared.lists.Prop.{Prop}
use Rattle.sgf_game.specs.Values.{values_if, trimmed}
use Rattle.sgf_game.specs.Setup.{is_cell, is_in, has_twice, are_misplaced, with_cells, cells_named}
use Rattle.sgf_game.specs.Placing.{placed_on}
use Rattle.sgf_game.proofs.Lists.{any_append}

-- ---- placing more

through : (b : Bool) (f : Option ℕ → Option ℕ) (p q : Option ℕ) → f None ≡ None → q ≡ f p
    → cond b None q ≡ f (cond b None p)
through true f p q e h = sym e
through false f p q e h = h

abbrev pub and_then : ℕ → List (Option ℕ) → Option ℕ → Option ℕ
and_then taken cells None = None
and_then taken cells (Some s) = placed_on taken s cells

pub placed_then : (taken s : ℕ) (xs ys : List (Option ℕ))
    → placed_on taken s (xs ++ ys) ≡ and_then taken ys (placed_on taken s xs)
placed_then taken s [] ys = refl
placed_then taken s (None ∷ xs) ys = refl
placed_then taken s (Some k ∷ xs) ys =
    through (has taken k || has s k) (and_then taken ys) (placed_on taken (with_cell s k) xs)
    (placed_on taken (with_cell s k) (xs ++ ys)) refl (placed_then taken (with_cell s k) xs ys)

-- ---- cells of the board

abbrev pub IsCellOf : ℕ → Option ℕ → Type 0
IsCellOf n None = Unit {0}
IsCellOf n (Some k) = k < n * n

abbrev pub AreCells : ℕ → List (Option ℕ) → Type 0
AreCells n [] = Unit {0}
AreCells n (c ∷ cells) = IsCellOf n c × AreCells n cells

found_within : (p : ℕ → Bool) (m a n : ℕ) → a + n ≡ m * m → IsCellOf m (find p (range_with_len a n))
found_within p m a zero e = tt
found_within p m a (suc n) e = elim (cases_Bool (p a)) [
  | inl t ↦ rw t (omega arith)
  | inr t ↦ rw t (found_within p m (a + 1) n (omega arith))
]

pub vertex_on_board : (n : ℕ) (text : List ℕ) → IsCellOf n (vertex_cell n text)
unfolding vertex_cell
vertex_on_board n text = found_within _ n 0 (n * n) (omega arith)

pub vertices_on_board : (n : ℕ) (texts : List (List ℕ)) → AreCells n (map (vertex_cell n) texts)
vertices_on_board n [] = tt
vertices_on_board n (text ∷ texts) = (vertex_on_board n text, vertices_on_board n texts)

-- ---- what is in a set of cells

pub has_cells : (n s j : ℕ) (cells : List (Option ℕ)) → n ≤ 11 → AreCells n cells
    → has (with_cells s cells) j ≡ (has s j || list_any (is_cell j) cells)
has_cells n s j [] h a = or_false (has s j)
  where
    or_false : (b : Bool) → b ≡ (b || false)
    or_false true = refl
    or_false false = refl
has_cells n s j (None ∷ cells) h a = has_cells n s j cells h a.1
has_cells n s j (Some k ∷ cells) h a =
    has_cells n (with_cell s k) j cells h a.1
    ∙ ap (λ b. b || list_any (is_cell j) cells)
    (has_with_cell s k j ∙ ap (λ b. has s j || b) (same_eq j k))
    ∙ or_assoc (has s j) (k == j) (list_any (is_cell j) cells)

eq_below : (j k m : ℕ) → (k == j) ≡ true → k < m → j < m
eq_below j k m e h = grind (arith, nat_tests)

pub cell_below : (n j : ℕ) (cells : List (Option ℕ)) → AreCells n cells
    → list_any (is_cell j) cells ≡ true → j < n * n
cell_below n j [] a e = absurd (cc)
cell_below n j (None ∷ cells) a e = cell_below n j cells a.1 e
cell_below n j (Some k ∷ cells) a e = elim (cases_Bool (k == j)) [
  | inl t ↦ eq_below j k (n * n) t a.0
  | inr t ↦ cell_below n j cells a.1 (rw t at e)
]

-- ---- which cells clash

abbrev pub in_set : ℕ → Option ℕ → Bool
in_set s None = false
in_set s (Some k) = has s k

abbrev pub in_either : ℕ → ℕ → Option ℕ → Bool
in_either s t c = in_set s c || in_set t c

abbrev pub clashes : ℕ → ℕ → List (Option ℕ) → Bool
clashes taken s cells = are_misplaced cells || list_any (in_either taken s) cells

shuffle : (a b e x y : Bool) → ((a || (b || e)) || (x || y)) ≡ (((a || b) || x) || (e || y))
shuffle true b e x y = refl
shuffle false true e x y = refl
shuffle false false true true y = refl
shuffle false false true false y = refl
shuffle false false false x y = refl

any_either_more : (taken s k : ℕ) (cells : List (Option ℕ)) → k < 121
    → list_any (in_either taken (with_cell s k)) cells ≡ (list_any (in_either taken s) cells || list_any (is_cell k) cells)
any_either_more taken s k [] h = refl
any_either_more taken s k (None ∷ cells) h = any_either_more taken s k cells h
any_either_more taken s k (Some j ∷ cells) h =
    ap (λ b. (has taken j || b) || list_any (in_either taken (with_cell s k)) cells)
    (has_with_cell s k j)
    ∙ ap (λ b. (has taken j || (has s j || j == k)) || b) (any_either_more taken s k cells h)
    ∙ shuffle (has taken j) (has s j) (j == k) (list_any (in_either taken s) cells)
    (list_any (is_cell k) cells)

one_of_two : (b c d : Bool) (x : Option ℕ) → (b || c) ≡ d
    → cond b None (cond c None x) ≡ cond d None x
one_of_two true c d x e = rw (← e) refl
one_of_two false c d x e = rw (← e) refl

clash_shuffle : (here none_left found twice met : Bool)
    → (here || ((none_left || twice) || (met || found))) ≡ ((none_left || (found || twice)) || (here || met))
clash_shuffle true true found twice met = refl
clash_shuffle true false true twice met = refl
clash_shuffle true false false true met = refl
clash_shuffle true false false false met = refl
clash_shuffle false true found twice met = refl
clash_shuffle false false true true met = refl
clash_shuffle false false true false true = refl
clash_shuffle false false true false false = refl
clash_shuffle false false false true met = refl
clash_shuffle false false false false true = refl
clash_shuffle false false false false false = refl

pub placed_is : (n taken s : ℕ) (cells : List (Option ℕ)) → n ≤ 11 → AreCells n cells
    → placed_on taken s cells ≡ cond (clashes taken s cells) None (Some (with_cells s cells))
placed_is n taken s [] h a = refl
placed_is n taken s (None ∷ cells) h a = refl
placed_is n taken s (Some k ∷ cells) h a =
    ap (λ p. cond (has taken k || has s k) None p) (placed_is n taken (with_cell s k) cells h a.1)
    ∙ one_of_two (has taken k || has s k) (clashes taken (with_cell s k) cells)
    (clashes taken s (Some k ∷ cells)) (Some (with_cells (with_cell s k) cells))
    (ap (λ b. (has taken k || has s k) || (are_misplaced cells || b)) (any_either_more taken s k cells (board_cell n k h a.0))
    ∙ clash_shuffle (has taken k || has s k) (list_any is_none cells) (list_any (is_cell k) cells)
    (has_twice cells) (list_any (in_either taken s) cells))

-- ---- going over the properties

pub dropped : {X : Type 0} → (xs : List X) (i : ℕ) (x : X) → i < length xs → x ≡ get_or xs i x
    → drop i xs ≡ x ∷ drop (i + 1) xs
dropped xs i x h e = rw add-one (drop-cons xs i x h ∙ ap (λ y. y ∷ drop (suc i) xs) (sym e))

named_first : (n taken s : ℕ) (name : List ℕ) (p : Prop) (props : List Prop)
    → placed_on taken s (cells_named n name record { props = p ∷ props })
    ≡ and_then taken (cells_named n name record { props = props })
    (placed_on taken s (map (vertex_cell n) (values_if name p)))
named_first n taken s name p props =
    ap (placed_on taken s) (map-append (vertex_cell n) (values_if name p) _)
    ∙ placed_then taken s (map (vertex_cell n) (values_if name p))
    (cells_named n name record { props = props })

pub named_here : (n taken s : ℕ) (name : List ℕ) (props : List Prop) (i : ℕ) (p : Prop)
    (r : Option ℕ) → i < length props → p ≡ get_or props i p → bytes_eq p.name name ≡ true
    → placed_on taken s (map (vertex_cell n) (map trimmed p.values)) ≡ r
    → placed_on taken s (cells_named n name record { props = drop i props }) ≡ and_then taken
    (cells_named n name record { props = drop (i + 1) props }) r
named_here n taken s name props i p r h e t q =
    let values : values_if name p ≡ map trimmed p.values = rw t refl in
    ap (λ ps. placed_on taken s (cells_named n name record { props = ps })) (dropped props i p h e)
    ∙ named_first n taken s name p (drop (i + 1) props)
    ∙ ap (and_then taken (cells_named n name record { props = drop (i + 1) props }))
    (ap (λ vs. placed_on taken s (map (vertex_cell n) vs)) values ∙ q)

pub named_not_here : (n taken s : ℕ) (name : List ℕ) (props : List Prop) (i : ℕ) (p : Prop)
    → i < length props → p ≡ get_or props i p → bytes_eq p.name name ≡ false
    → placed_on taken s (cells_named n name record { props = drop i props }) ≡ placed_on taken s
    (cells_named n name record { props = drop (i + 1) props })
named_not_here n taken s name props i p h e t =
    let values : values_if name p ≡ [] = rw t refl in
    ap (λ ps. placed_on taken s (cells_named n name record { props = ps })) (dropped props i p h e)
    ∙ named_first n taken s name p (drop (i + 1) props)
    ∙ ap (and_then taken (cells_named n name record { props = drop (i + 1) props }))
    (ap (λ vs. placed_on taken s (map (vertex_cell n) vs)) values)

-- ---- both players' stones

cond_none : (b : Bool) (x : ℕ) → None ≡ cond b None (Some x) → b ≡ true
cond_none true x e = refl
cond_none false x e = absurd (cc)

cond_some : (b : Bool) (x y : ℕ) → Some y ≡ cond b None (Some x) → (b ≡ false) × (y ≡ x)
cond_some true x y e = absurd (cc)
cond_some false x y e = (refl, cc)

in_none : (c : Option ℕ) → is_in [] c ≡ false
in_none None = refl
in_none (Some k) = refl

any_in_none : (cells : List (Option ℕ)) → list_any (is_in []) cells ≡ false
any_in_none [] = refl
any_in_none (c ∷ cells) = rw (in_none c) (any_in_none cells)

in_after_none : (cells : List (Option ℕ)) (c : Option ℕ) → is_in (None ∷ cells) c ≡ is_in cells c
in_after_none cells None = refl
in_after_none cells (Some k) = refl

any_after_none : (cells others : List (Option ℕ))
    → list_any (is_in (None ∷ cells)) others ≡ list_any (is_in cells) others
any_after_none cells [] = refl
any_after_none cells (c ∷ others) = ap (λ b. b || list_any (is_in (None ∷ cells)) others)
    (in_after_none cells c) ∙ ap (λ b. is_in cells c || b) (any_after_none cells others)

four : (a b x y : Bool) → ((a || b) || (x || y)) ≡ ((a || x) || (b || y))
four true b x y = refl
four false true true y = refl
four false true false y = refl
four false false x y = refl

any_after_some : (k : ℕ) (cells others : List (Option ℕ))
    → list_any (is_in (Some k ∷ cells)) others ≡ (list_any (is_cell k) others || list_any (is_in cells) others)
any_after_some k cells [] = refl
any_after_some k cells (None ∷ others) = any_after_some k cells others
any_after_some k cells (Some j ∷ others) =
    ap (λ b. (b || list_any (is_cell j) cells) || list_any (is_in (Some k ∷ cells)) others)
    (same_eq k j)
    ∙ ap (λ b. ((j == k) || list_any (is_cell j) cells) || b) (any_after_some k cells others)
    ∙ four (j == k) (list_any (is_cell j) cells) (list_any (is_cell k) others)
    (list_any (is_in cells) others)

or_false : (b : Bool) → b ≡ (b || false)
or_false true = refl
or_false false = refl

twice_shuffle : (a b t u x : Bool) → ((a || b) || (t || (u || x))) ≡ ((a || t) || (u || (b || x)))
twice_shuffle true b t u x = refl
twice_shuffle false true true u x = refl
twice_shuffle false true false true x = refl
twice_shuffle false true false false x = refl
twice_shuffle false false t u x = refl

pub twice_append : (cells others : List (Option ℕ))
    → has_twice (cells ++ others) ≡ (has_twice cells || (has_twice others || list_any (is_in cells) others))
twice_append [] others = or_false (has_twice others)
    ∙ ap (λ b. has_twice others || b) (sym (any_in_none others))
twice_append (None ∷ cells) others = twice_append cells others
    ∙ ap (λ b. has_twice cells || (has_twice others || b)) (sym (any_after_none cells others))
twice_append (Some k ∷ cells) others =
    ap (λ b. b || has_twice (cells ++ others)) (any_append (is_cell k) cells others)
    ∙ ap (λ b. (list_any (is_cell k) cells || list_any (is_cell k) others) || b)
    (twice_append cells others)
    ∙ twice_shuffle (list_any (is_cell k) cells) (list_any (is_cell k) others) (has_twice cells)
    (has_twice others) (list_any (is_in cells) others)
    ∙ ap (λ b. (list_any (is_cell k) cells || has_twice cells) || (has_twice others || b))
    (sym (any_after_some k cells others))

no_clash : (c : Option ℕ) → in_either 0 0 c ≡ false
no_clash None = refl
no_clash (Some k) = rw (has_none k) refl

none_clash : (cells : List (Option ℕ)) → list_any (in_either 0 0) cells ≡ false
none_clash [] = refl
none_clash (c ∷ cells) = rw (no_clash c) (none_clash cells)

-- a set without stones, and one of cells
either_is : (n : ℕ) (cells : List (Option ℕ)) (c : Option ℕ) → n ≤ 11 → AreCells n cells
    → in_either (with_cells 0 cells) 0 c ≡ is_in cells c
either_is n cells None h a = refl
either_is n cells (Some k) h a =
    ap (λ b. b || has 0 k) (has_cells n 0 k cells h a)
    ∙ (rw (has_none k) (sym (or_false (list_any (is_cell k) cells))))

any_either_is : (n : ℕ) (cells others : List (Option ℕ)) → n ≤ 11 → AreCells n cells
    → list_any (in_either (with_cells 0 cells) 0) others ≡ list_any (is_in cells) others
any_either_is n cells [] h a = refl
any_either_is n cells (c ∷ others) h a =
    ap (λ b. b || list_any (in_either (with_cells 0 cells) 0) others) (either_is n cells c h a)
    ∙ ap (λ b. is_in cells c || b) (any_either_is n cells others h a)

both_shuffle : (m n t u x : Bool) → ((m || n) || (t || (u || x))) ≡ ((m || t) || ((n || u) || x))
both_shuffle true n t u x = refl
both_shuffle false true true u x = refl
both_shuffle false true false u x = refl
both_shuffle false false t u x = refl

-- both lists together are misplaced if the first is, or the second clashes with it
together : (n : ℕ) (cells others : List (Option ℕ)) → n ≤ 11 → AreCells n cells
    → are_misplaced (cells ++ others) ≡ (clashes 0 0 cells || clashes (with_cells 0 cells) 0 others)
together n cells others h a =
    ap (λ b. b || has_twice (cells ++ others)) (any_append is_none cells others)
    ∙ ap (λ b. (list_any is_none cells || list_any is_none others) || b) (twice_append cells others)
    ∙ both_shuffle (list_any is_none cells) (list_any is_none others) (has_twice cells)
    (has_twice others) (list_any (is_in cells) others)
    ∙ ap (λ b. are_misplaced cells || (are_misplaced others || b))
    (sym (any_either_is n cells others h a))
    ∙ ap (λ b. b || clashes (with_cells 0 cells) 0 others)
    (or_false (are_misplaced cells) ∙ ap (λ b. are_misplaced cells || b) (sym (none_clash cells)))

pub first_refused : (n : ℕ) (cells others : List (Option ℕ)) → n ≤ 11 → AreCells n cells
    → None ≡ placed_on 0 0 cells → are_misplaced (cells ++ others) ≡ true
first_refused n cells others h a e =
    let c : clashes 0 0 cells ≡ true = cond_none (clashes 0 0 cells) (with_cells 0 cells)
    (e ∙ placed_is n 0 0 cells h a) in
    together n cells others h a ∙ rw c refl

pub second_refused : (n b : ℕ) (cells others : List (Option ℕ)) → n ≤ 11 → AreCells n cells
    → AreCells n others → Some b ≡ placed_on 0 0 cells → None ≡ placed_on b 0 others
    → are_misplaced (cells ++ others) ≡ true
second_refused n b cells others h a a' e f =
    let first = cond_some (clashes 0 0 cells) (with_cells 0 cells) b
    (e ∙ placed_is n 0 0 cells h a) in
    let c : clashes b 0 others ≡ true = cond_none (clashes b 0 others) (with_cells 0 others)
    (f ∙ placed_is n b 0 others h a') in
    let d : clashes (with_cells 0 cells) 0 others ≡ true
    = subst (λ s. clashes s 0 others ≡ true) first.1 c in
    together n cells others h a ∙ (ap (λ x. clashes 0 0 cells || x) d ∙ or-true (clashes 0 0 cells))

-- both players' stones are placed
pub record ArePlaced (n b w : ℕ) (cells others : List (Option ℕ)) : Type 0 where
  pub fine : are_misplaced (cells ++ others) ≡ false
  pub black : b ≡ with_cells 0 cells
  pub white : w ≡ with_cells 0 others
  pub black_on : Within n b
  pub white_on : Within n w
  pub apart : Apart b w

in_cells : (n j : ℕ) (cells : List (Option ℕ)) → n ≤ 11 → AreCells n cells
    → has (with_cells 0 cells) j ≡ true → list_any (is_cell j) cells ≡ true
in_cells n j cells h a e
    = let t : has (with_cells 0 cells) j ≡ list_any (is_cell j) cells = has_cells n 0 j cells h a
    ∙ rw (has_none j) refl in sym t ∙ e

meets_taken : (b j : ℕ) (cells : List (Option ℕ)) → has b j ≡ true
    → list_any (is_cell j) cells ≡ true → list_any (in_either b 0) cells ≡ true
meets_taken b j [] h e = absurd (cc)
meets_taken b j (None ∷ cells) h e = meets_taken b j cells h e
meets_taken b j (Some k ∷ cells) h e = elim (cases_Bool (k == j)) [
  | inl t ↦ let same : has b k ≡ true = ap (has b) (eqb-true k j t) ∙ h in rw same refl
  | inr t ↦ rw (meets_taken b j cells h (rw t at e)) (or-true (has b k || has 0 k))
]

clash_parts : (m x : Bool) → (m || x) ≡ false → x ≡ true → ⊥
clash_parts true x e f = cc
clash_parts false x e f = cc

pub both_placed : (n b w : ℕ) (cells others : List (Option ℕ)) → n ≤ 11 → AreCells n cells
    → AreCells n others → Some b ≡ placed_on 0 0 cells → Some w ≡ placed_on b 0 others
    → ArePlaced n b w cells others
both_placed n b w cells others h a a' e f =
    let first = cond_some (clashes 0 0 cells) (with_cells 0 cells) b
    (e ∙ placed_is n 0 0 cells h a) in
    let second = cond_some (clashes b 0 others) (with_cells 0 others) w
    (f ∙ placed_is n b 0 others h a') in
    let d : clashes (with_cells 0 cells) 0 others ≡ false
    = subst (λ s. clashes s 0 others ≡ false) first.1 second.0 in
    record {
      fine = together n cells others h a
          ∙ (ap (λ x. x || clashes (with_cells 0 cells) 0 others) first.0 ∙ d);
      black = first.1;
      white = second.1;
      black_on = λ k t. cell_below n k cells a
          (in_cells n k cells h a (ap (λ s. has s k) (sym first.1) ∙ t));
      white_on = λ k t. cell_below n k others a' (in_cells n k others h a' (ap (λ s. has s k) (sym second.1) ∙ t));
      apart = λ k t u. clash_parts (are_misplaced others) (list_any (in_either b 0) others) second.0
          (meets_taken b k others t (in_cells n k others h a' (ap (λ s. has s k) (sym second.1) ∙ u)));
    }
