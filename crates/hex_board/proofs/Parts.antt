-- What the numbering of elements says: linked and tied stones, heads, and the cells of each
-- element.
use Rattle.std.proofs.Common.{◌≡◌, ℕ, ◌+◌, ◌-◌, ◌*◌, ◌<◌, ◌≤◌, ◌==◌, ◌&&◌, ◌||◌, ◌⊎◌, ◌↔◌, IsTrue}
use Rattle.std.proofs.Common.{not, true, false, Bool, List, [], Option, Some, None, refl, sym, ◌∙◌}
use Rattle.std.proofs.Common.{ap, subst, arith, inl, inr, zero, suc, nat_lt, IfSome, if◌then◌else◌}
use Rattle.std.specs.List.{count_by, find, list_any, range_with_len}
use Rattle.std.specs.Option.{option_map}
use Rattle.std.proofs.lemmas.Bool.{and_parts, or_cases, or_left, or_right, cases_Bool, cases_eq}
use Rattle.std.proofs.lemmas.Bool.{cases_order, false≢true, both_ways, false_from_ne_true, not-true}
use Rattle.std.proofs.lemmas.Bool.{eqb-true, eq-eqb, lt-ltb}
use Rattle.hex_cells.specs.Sets.{has, members}
use Rattle.hex_cells.specs.Edges.{on_edge}
use Rattle.hex_cells.specs.Colours.{other_of}
use Rattle.hex_cells.specs.declared.colours.Colour.{Colour}
use Rattle.hex_cells.specs.declared.colours.Colour.TheVariants.{Black, White}
use Rattle.hex_cells.proofs.Beside.{same_test}
use Rattle.hex_cells.proofs.Counts.{members_few, members_apart, members_flat, members_test}
use Rattle.hex_cells.proofs.Ranges.{find_first, find_none}
use Rattle.hex_cells.proofs.Tables.{square_small}
use Rattle.hex_board.specs.Joined.{Path, last_of, Leads, leads_in, cells_of}
use Rattle.hex_board.specs.Positions.{Position, Within, Apart, stones_of, is_empty_at}
use Rattle.hex_board.specs.Groups.{Links, IsRoot}
use Rattle.hex_board.specs.Elements.{PlayerBoard, is_linked, is_tied, are_joined, is_root, is_head}
use Rattle.hex_board.specs.Elements.{edge_element, edge_elements, head_element, element_count}
use Rattle.hex_board.specs.Elements.{element_of}
use Rattle.hex_board.proofs.Placed.{empty_on, stone_full}
use Rattle.hex_board.proofs.Roots.{links_through, turned_link, first_in}
use Rattle.hex_board.proofs.Search.{any_out, any_in, leads_out, leads_found, starts_in}
use Rattle.hex_board.proofs.Search.{joined_found}

-- ---- what a search says, on a board

pub leads_on_board : (n s : ℕ) (test : ℕ → Bool) (x : ℕ) (xs : List ℕ) → Within n s → Path n s x xs
    → test (last_of x xs) ≡ true → leads_in (n * n) n s test x ≡ true
leads_on_board n s test x xs on p e
    = leads_found (n * n) n s test x xs (on x (starts_in n s x xs p)) (members_few s (n * n)) p e

pub link_out : (n s a b : ℕ) → leads_in (n * n) n s (λ k. k == b) a ≡ true → Links n s a b
link_out n s a b h = let t = leads_out (n * n) n s (λ k. k == b) a h in (t.0, t.1, eqb-true _ _ t.2)

pub link_in : (n s a b : ℕ) → Within n s → Links n s a b
    → leads_in (n * n) n s (λ k. k == b) a ≡ true
link_in n s a b on l = leads_on_board n s (λ k. k == b) a l.0 on l.1 (eq-eqb _ _ l.2)

pub last_in : (n s a b : ℕ) → Links n s a b → has s b ≡ true
last_in n s a b l = first_in n s b a (turned_link n s a b l)

-- the test of a flood towards a set whose cells pass a test
pub flood_test : (n s g : ℕ) (test : ℕ → Bool) (r k : ℕ) → Within n s → ((j : ℕ) → has g j ≡ test j)
    → IsTrue (has r k) ↔ Leads n s g k
    → has r k ≡ leads_in (n * n) n s test k
flood_test n s g test r k on hg hr = same_test (has r k) (leads_in (n * n) n s test k)
    (λ e. let l = hr.0 e in leads_on_board n s test k l.0 on l.1 (sym (hg (last_of k l.0)) ∙ l.2))
    (λ e. let l = leads_out (n * n) n s test k e in hr.1 (l.0, l.1, hg (last_of k l.0) ∙ l.2))

-- ---- linked and tied

pub linked_through : (e : PlayerBoard) (a b c : ℕ)
    → Within e.board.size (stones_of e.board e.player) → is_linked e a b ≡ true
    → is_linked e b c ≡ true → is_linked e a c ≡ true
linked_through e a b c on h i = let n = e.board.size in let s = stones_of e.board e.player in
    link_in n s a c on (links_through n s a b c (link_out n s a b h) (link_out n s b c i))

pub linked_back : (e : PlayerBoard) (a b : ℕ) → Within e.board.size (stones_of e.board e.player)
    → is_linked e a b ≡ true → is_linked e b a ≡ true
linked_back e a b on h = let n = e.board.size in let s = stones_of e.board e.player in
    link_in n s b a on (turned_link n s a b (link_out n s a b h))

pub tied_through : (e : PlayerBoard) (second : Bool) (a b : ℕ)
    → Within e.board.size (stones_of e.board e.player) → is_linked e a b ≡ true
    → is_tied e second b ≡ true → is_tied e second a ≡ true
tied_through e second a b on h i =
    let n = e.board.size in let s = stones_of e.board e.player in
    let t = leads_out (n * n) n s (on_edge e.player second n) b i in
    let l : Links n s a (last_of b t.0) = links_through n s a b (last_of b t.0) (link_out n s a b h)
    (t.0, t.1, refl) in
    leads_on_board n s (on_edge e.player second n) a l.0 on l.1
    (ap (on_edge e.player second n) l.2 ∙ t.2)

pub linked_first : (e : PlayerBoard) (a b : ℕ) → is_linked e a b ≡ true
    → has (stones_of e.board e.player) a ≡ true
linked_first e a b h = first_in e.board.size (stones_of e.board e.player) a b
    (link_out e.board.size (stones_of e.board e.player) a b h)

pub linked_last : (e : PlayerBoard) (a b : ℕ) → is_linked e a b ≡ true
    → has (stones_of e.board e.player) b ≡ true
linked_last e a b h = last_in e.board.size (stones_of e.board e.player) a b
    (link_out e.board.size (stones_of e.board e.player) a b h)

pub tied_stone : (e : PlayerBoard) (second : Bool) (k : ℕ) → is_tied e second k ≡ true
    → has (stones_of e.board e.player) k ≡ true
tied_stone e second k h = let n = e.board.size in let s = stones_of e.board e.player in
    let t = leads_out (n * n) n s (on_edge e.player second n) k h in starts_in n s k t.0 t.1

-- a stone tied to both edges joins them
pub tied_joins : (e : PlayerBoard) (k : ℕ) → is_tied e false k ≡ true → is_tied e true k ≡ true
    → are_joined e ≡ true
tied_joins e k h i =
    let n = e.board.size in let s = stones_of e.board e.player in
    let t = leads_out (n * n) n s (on_edge e.player false n) k h in
    let u = leads_out (n * n) n s (on_edge e.player true n) k i in
    let back : Links n s (last_of k t.0) k = turned_link n s k (last_of k t.0) (t.0, t.1, refl) in
    let l : Links n s (last_of k t.0) (last_of k u.0)
    = links_through n s (last_of k t.0) k (last_of k u.0) back (u.0, u.1, refl) in
    joined_found n e.player s (last_of k t.0, l.0, l.1, t.2, ap (on_edge e.player true n) l.2 ∙ u.2)

pub tied_full : (e : PlayerBoard) (second : Bool) (k : ℕ) → is_tied e second k ≡ true
    → is_empty_at e.board k ≡ false
tied_full e second k h = stone_full e.board e.player k (tied_stone e second k h)

-- ---- the least cell that is linked to a cell

pub find_case : (p : ℕ → Bool) (a m : ℕ)
    → ((find p (range_with_len a m) ≡ None) × ((j : ℕ) → a ≤ j → j < a + m → p j ≡ false))
    ⊎ ((r : ℕ) × (find p (range_with_len a m) ≡ Some r) × (r < a + m) × (p r ≡ true) × ((j : ℕ) → a ≤ j → j < r → p j ≡ false))
find_case p a zero = inl (refl, λ j l h. absurd (omega arith))
find_case p a (suc m) = elim (cases_Bool (p a)) [
  | inl t ↦ inr (a, rw t refl, omega arith, t, λ j l h. absurd (omega arith))
  | inr t ↦ elim (find_case p (a + 1) m) [
    | inl u ↦ inl (rw t u.0, λ j l h. one_more p a j (a + suc m) t (λ b. u.1 j b (omega arith)) l)
    | inr u ↦ inr
        (u.0, rw t u.1, omega (arith, u.2), u.3, λ j l h. one_more p a j u.0 t (λ b. u.4 j b h) l)
  ]
]
  where
    one_more : (p : ℕ → Bool) (a j r : ℕ) → p a ≡ false → (a + 1 ≤ j → p j ≡ false) → a ≤ j
        → p j ≡ false
    one_more p a j r t f l
        = elim (cases_eq a j) [ inl q ↦ ap p (sym q) ∙ t | inr q ↦ f (omega arith) ]

-- ---- a cell's element, by cases

pick_first : (a b c : Bool) (x y z v : Option ℕ) → a ≡ true
    → (if a then x else (if b then y else (if c then z else v))) ≡ x
pick_first true b c x y z v h = refl
pick_first false b c x y z v h = absurd (false≢true h)

pick_second : (a b c : Bool) (x y z v : Option ℕ) → a ≡ false → b ≡ true
    → (if a then x else (if b then y else (if c then z else v))) ≡ y
pick_second a b c x y z v h i = rw (h, i) refl

pick_third : (a b c : Bool) (x y z v : Option ℕ) → a ≡ false → b ≡ false → c ≡ true
    → (if a then x else (if b then y else (if c then z else v))) ≡ z
pick_third a b c x y z v h i j = rw (h, i, j) refl

pick_last : (a b c : Bool) (x y z v : Option ℕ) → a ≡ false → b ≡ false → c ≡ false
    → (if a then x else (if b then y else (if c then z else v))) ≡ v
pick_last a b c x y z v h i j = rw (h, i, j) refl

pub data Case (e : PlayerBoard) (k : ℕ) : Type 0 where
  is_free : is_empty_at e.board k ≡ true → element_of e k ≡ Some (head_element e k) → Case e k
  is_first : is_tied e false k ≡ true → element_of e k ≡ Some 0 → Case e k
  is_second : is_tied e false k ≡ false → is_tied e true k ≡ true
      → element_of e k ≡ Some (edge_element e true) → Case e k
  is_group : (r : ℕ) → is_tied e false k ≡ false → is_tied e true k ≡ false → is_linked e r k ≡ true
      → ((j : ℕ) → j < r → is_linked e j k ≡ false)
      → element_of e k ≡ Some (head_element e r) → Case e k
  is_other : is_empty_at e.board k ≡ false → is_tied e false k ≡ false → is_tied e true k ≡ false
      → ((j : ℕ) → is_linked e j k ≡ false)
      → element_of e k ≡ None → Case e k

pub case_of : (e : PlayerBoard) (k : ℕ)
    → Within e.board.size (stones_of e.board e.player) → Case e k
case_of e k on =
    let v = option_map (head_element e) (find (λ j. is_linked e j k) (cells_of e.board.size)) in
    elim (cases_Bool (is_empty_at e.board k)) [
      | inl h ↦ is_free h
          (pick_first (is_empty_at e.board k) (is_tied e false k) (is_tied e true k) _ _ _ v h)
      | inr h ↦ elim (cases_Bool (is_tied e false k)) [
        | inl i ↦ is_first i
            (pick_second (is_empty_at e.board k) (is_tied e false k) (is_tied e true k) _ _ _ v h i)
        | inr i ↦ elim (cases_Bool (is_tied e true k)) [
          | inl l ↦ is_second i l
              (pick_third (is_empty_at e.board k) (is_tied e false k) (is_tied e true k) _ _ _ v h i l)
          | inr l ↦ elim (find_case (λ j. is_linked e j k) 0 (e.board.size * e.board.size)) [
            | inl u ↦ is_other h i l (λ j. all_below e j k on (u.1 j (omega arith)))
                (pick_last (is_empty_at e.board k) (is_tied e false k) (is_tied e true k) _ _ _ v h i l ∙ ap (option_map (head_element e)) u.0)
            | inr u ↦ is_group u.0 i l u.3 (λ j b. u.4 j (omega arith) b)
                (pick_last (is_empty_at e.board k) (is_tied e false k) (is_tied e true k) _ _ _ v h i l ∙ ap (option_map (head_element e)) u.1)
          ]
        ]
      ]
    ]
  where
    all_below : (e : PlayerBoard) (j k : ℕ) → Within e.board.size (stones_of e.board e.player)
        → (j < 0 + e.board.size * e.board.size → is_linked e j k ≡ false) → is_linked e j k ≡ false
    all_below e j k on f
        = false_from_ne_true (is_linked e j k)
        (λ t. both_ways (is_linked e j k) (f (omega (arith, on j (linked_first e j k t)))) t)

-- ---- heads

pub head_from_root : (a b c d : Bool) → b ≡ true → c ≡ false → d ≡ false
    → (a || (b && not c && not d)) ≡ true
head_from_root a b c d h i j = grind arith

stone_alone : (a b : Bool) → a ≡ true → b ≡ false → (a && not b) ≡ true
stone_alone a b h i = grind arith

-- the least stone that is linked to a stone is the least of its group
pub least_root : (e : PlayerBoard) (r k : ℕ) → Within e.board.size (stones_of e.board e.player)
    → is_linked e r k ≡ true
    → ((j : ℕ) → j < r → is_linked e j k ≡ false) → is_root e r ≡ true
least_root e r k on h m = stone_alone (has (stones_of e.board e.player) r)
    (list_any (λ j. is_linked e j r) (range_with_len 0 r)) (linked_first e r k h)
    (false_from_ne_true (list_any (λ j. is_linked e j r) (range_with_len 0 r)) (λ t.
    let w = any_out (λ j. is_linked e j r) 0 r t in
    both_ways (is_linked e w.0 k) (m w.0 (omega (arith, w.1))) (linked_through e w.0 r k on w.2 h)))

untied : (e : PlayerBoard) (second : Bool) (r k : ℕ)
    → Within e.board.size (stones_of e.board e.player) → is_linked e r k ≡ true
    → is_tied e second k ≡ false → is_tied e second r ≡ false
untied e second r k on h f = false_from_ne_true (is_tied e second r) (λ t.
    both_ways (is_tied e second k) f (tied_through e second k r on (linked_back e r k on h) t))

pub root_head : (e : PlayerBoard) (r k : ℕ) → Within e.board.size (stones_of e.board e.player)
    → is_tied e false k ≡ false → is_tied e true k ≡ false
    → is_linked e r k ≡ true → ((j : ℕ) → j < r → is_linked e j k ≡ false) → is_head e r ≡ true
root_head e r k on f g h m = head_from_root (is_empty_at e.board r) (is_root e r)
    (is_tied e false r) (is_tied e true r)
    (least_root e r k on h m) (untied e false r k on h f) (untied e true r k on h g)

pub empty_head : (e : PlayerBoard) (k : ℕ) → is_empty_at e.board k ≡ true → is_head e k ≡ true
empty_head e k h
    = or_left (is_empty_at e.board k)
    (is_root e k && not (is_tied e false k) && not (is_tied e true k)) h

-- a head is an empty cell, or the least stone of a group that is tied to no edge
pub head_cases : (e : PlayerBoard) (k : ℕ) → is_head e k ≡ true
    → (is_empty_at e.board k ≡ true) ⊎ ((is_root e k ≡ true) × (is_tied e false k ≡ false) × (is_tied e true k ≡ false))
head_cases e k h
    = elim (or_cases (is_empty_at e.board k) (is_root e k && not (is_tied e false k) && not (is_tied e true k)) h) [
      | inl t ↦ inl t
      | inr t ↦ inr (parts (is_root e k) (is_tied e false k) (is_tied e true k) t)
    ]
  where
    parts : (a b c : Bool) → (a && not b && not c) ≡ true → (a ≡ true) × (b ≡ false) × (c ≡ false)
    parts true true c h = absurd (false≢true h)
    parts true false true h = absurd (false≢true h)
    parts true false false h = (refl, refl, refl)
    parts false b c h = absurd (false≢true h)

pub head_on : (e : PlayerBoard) (k : ℕ) → Within e.board.size (stones_of e.board e.player)
    → is_head e k ≡ true → k < e.board.size * e.board.size
head_on e k on h = elim (head_cases e k h) [
  | inl t ↦ empty_on e.board k t
  | inr t ↦ on k
      (and_parts (has (stones_of e.board e.player) k) (not (list_any (λ j. is_linked e j k) (range_with_len 0 k))) t.0).0
]

-- ---- numbers of elements

-- two heads with one number are one cell
pub one_head : (h : ℕ) (p : ℕ → Bool) (a b : ℕ) → ((k : ℕ) → has h k ≡ p k) → p a ≡ true
    → p b ≡ true
    → count_by p (range_with_len 0 a) ≡ count_by p (range_with_len 0 b) → a ≡ b
one_head h p a b f i j e =
    let x : members h a ≡ members h b = members_test h p a f ∙ (e ∙ sym (members_test h p b f)) in
    elim (cases_order a b) [
      | inl q ↦ q
      | inr o ↦ elim o [
        | inl l ↦ absurd (omega (arith, members_apart h a b (f a ∙ i) l))
        | inr l ↦ absurd (omega (arith, members_apart h b a (f b ∙ j) l))
      ]
    ]

-- a head below m counts
pub head_counts : (h : ℕ) (p : ℕ → Bool) (a m : ℕ) → ((k : ℕ) → has h k ≡ p k) → p a ≡ true → a < m
    → count_by p (range_with_len 0 a) < count_by p (range_with_len 0 m)
head_counts h p a m f i l =
    let x : members h a ≡ count_by p (range_with_len 0 a) = members_test h p a f in
    let y : members h m ≡ count_by p (range_with_len 0 m) = members_test h p m f in
    omega (arith, members_apart h a m (f a ∙ i) l)

-- all heads lie on the board
pub all_heads : (e : PlayerBoard) (h : ℕ) → Within e.board.size (stones_of e.board e.player)
    → e.board.size ≤ 11 → ((k : ℕ) → has h k ≡ is_head e k)
    → members h 121 ≡ count_by (is_head e) (cells_of e.board.size)
all_heads e h on l f =
    let m = e.board.size * e.board.size in
    let b : m ≤ 121 = square_small e.board.size l in
    let d : 121 ≡ m + (121 - m) = omega arith in
    ap (λ v. members h v) d
    ∙ (members_flat h m (121 - m) (λ k g. false_from_ne_true (has h k) (λ t. past k m g (head_on e k on (sym (f k) ∙ t))))
    ∙ members_test h (is_head e) m f)
  where
    past : (k m : ℕ) → m ≤ k → k < m → ⊥
    past k m g l = absurd (omega arith)

-- ---- ranges

pub edge_below : (e : PlayerBoard) (b : Bool) → edge_element e b < edge_elements e
edge_below e false = first_below (are_joined e)
  where
    first_below : (j : Bool) → 0 < (if j then 1 else 2)
    first_below true = omega arith
    first_below false = omega arith
edge_below e true = second_below (are_joined e)
  where
    second_below : (j : Bool) → (if j then 0 else 1) < (if j then 1 else 2)
    second_below true = omega arith
    second_below false = omega arith

pub head_below : (e : PlayerBoard) (h k : ℕ) → Within e.board.size (stones_of e.board e.player)
    → ((j : ℕ) → has h j ≡ is_head e j) → is_head e k ≡ true
    → head_element e k < element_count e
head_below e h k on f i = let l = head_counts h (is_head e) k (e.board.size * e.board.size) f i
    (head_on e k on i) in
    add_below (edge_elements e) (count_by (is_head e) (range_with_len 0 k))
    (count_by (is_head e) (cells_of e.board.size)) l
  where
    add_below : (b x y : ℕ) → x < y → b + x < b + y
    add_below b x y l = omega arith

pub none_some : (x : ℕ) → None ≡ Some x → ⊥
none_some x e = cc

pub some_same : (x y : ℕ) → Some x ≡ Some y → x ≡ y
some_same x y e = cc

low_below : (x b c : ℕ) → x < b → x < b + c
low_below x b c l = omega arith

pub element_below : (e : PlayerBoard) (h k x : ℕ) → Within e.board.size (stones_of e.board e.player)
    → ((j : ℕ) → has h j ≡ is_head e j) → element_of e k ≡ Some x
    → x < element_count e
element_below e h k x on f q = elim (case_of e k on) [
  | is_free i t ↦ subst (λ v. v < element_count e) (some_same _ _ (sym t ∙ q))
      (head_below e h k on f (empty_head e k i))
  | is_first i t ↦ subst (λ v. v < element_count e) (some_same _ _ (sym t ∙ q))
      (low_below 0 (edge_elements e) (count_by (is_head e) (cells_of e.board.size)) (edge_below e false))
  | is_second i j t ↦ subst (λ v. v < element_count e) (some_same _ _ (sym t ∙ q))
      (low_below (edge_element e true) (edge_elements e) (count_by (is_head e) (cells_of e.board.size)) (edge_below e true))
  | is_group r i j l m t ↦ subst (λ v. v < element_count e) (some_same _ _ (sym t ∙ q))
      (head_below e h r on f (root_head e r k on i j l m))
  | is_other i j l m t ↦ absurd (none_some x (sym t ∙ q))
]

-- ---- the other player's stones

link_self : (e : PlayerBoard) (k : ℕ) → Within e.board.size (stones_of e.board e.player)
    → has (stones_of e.board e.player) k ≡ true → is_linked e k k ≡ true
link_self e k on h = link_in e.board.size (stones_of e.board e.player) k k on ([], h, refl)

rest_stone : (a b c : Bool) → (a && not b && not c) ≡ false → a ≡ true → b ≡ false → c ≡ true
rest_stone a b c e h i = grind arith

rest_other : (a b c : Bool) → (a && not b && not c) ≡ false → a ≡ true → c ≡ false → b ≡ true
rest_other a b c e h i = grind arith

other_stone : (p : Position) (c : Colour) (k : ℕ) → k < p.size * p.size → is_empty_at p k ≡ false
    → has (stones_of p c) k ≡ false → has (stones_of p (other_of c)) k ≡ true
other_stone p Black k l e h = rest_stone (nat_lt k (p.size * p.size)) (has p.black k)
    (has p.white k) e (lt-ltb _ _ l) h
other_stone p White k l e h = rest_other (nat_lt k (p.size * p.size)) (has p.black k)
    (has p.white k) e (lt-ltb _ _ l) h

pub none_other : (e : PlayerBoard) (k : ℕ) → Within e.board.size (stones_of e.board e.player)
    → Apart (stones_of e.board e.player) (stones_of e.board (other_of e.player))
    → k < e.board.size * e.board.size
    → (element_of e k ≡ None) ↔ (has (stones_of e.board (other_of e.player)) k ≡ true)
none_other e k on apart l = (
  (λ q. elim (case_of e k on) [
    | is_free i t ↦ absurd (none_some _ (sym q ∙ t))
    | is_first i t ↦ absurd (none_some _ (sym q ∙ t))
    | is_second i j t ↦ absurd (none_some _ (sym q ∙ t))
    | is_group r i j h m t ↦ absurd (none_some _ (sym q ∙ t))
    | is_other i j h m t ↦ other_stone e.board e.player k l i
        (false_from_ne_true (has (stones_of e.board e.player) k) (λ u. both_ways (is_linked e k k) (m k) (link_self e k on u)))
  ]),
  (λ o. elim (case_of e k on) [
    | is_free i t ↦ absurd
        (both_ways (is_empty_at e.board k) (stone_full e.board (other_of e.player) k o) i)
    | is_first i t ↦ absurd (apart k (tied_stone e false k i) o)
    | is_second i j t ↦ absurd (apart k (tied_stone e true k j) o)
    | is_group r i j h m t ↦ absurd (apart k (linked_last e r k h) o)
    | is_other i j h m t ↦ t
  ]),
)

-- ---- what the code finds

pub of_free : (e : PlayerBoard) (k : ℕ) → is_empty_at e.board k ≡ true
    → element_of e k ≡ Some (head_element e k)
of_free e k h = pick_first (is_empty_at e.board k) (is_tied e false k) (is_tied e true k) _ _ _ _ h

pub of_first : (e : PlayerBoard) (k : ℕ) → is_tied e false k ≡ true → element_of e k ≡ Some 0
of_first e k h = pick_second (is_empty_at e.board k) (is_tied e false k) (is_tied e true k) _ _ _ _
    (tied_full e false k h) h

pub of_second : (e : PlayerBoard) (k : ℕ) → is_tied e false k ≡ false → is_tied e true k ≡ true
    → element_of e k ≡ Some (edge_element e true)
of_second e k g h = pick_third (is_empty_at e.board k) (is_tied e false k)
    (is_tied e true k) _ _ _ _ (tied_full e true k h) g h

pub of_rest : (e : PlayerBoard) (k : ℕ) → is_empty_at e.board k ≡ false → is_tied e false k ≡ false
    → is_tied e true k ≡ false
    → element_of e k ≡ option_map (head_element e)
    (find (λ j. is_linked e j k) (cells_of e.board.size))
of_rest e k f g h = pick_last (is_empty_at e.board k) (is_tied e false k)
    (is_tied e true k) _ _ _ _ f g h

pub of_group : (e : PlayerBoard) (k r : ℕ) → Within e.board.size (stones_of e.board e.player)
    → is_empty_at e.board k ≡ false → is_tied e false k ≡ false → is_tied e true k ≡ false
    → is_linked e r k ≡ true → ((j : ℕ) → j < r → is_linked e j k ≡ false)
    → element_of e k ≡ Some (head_element e r)
of_group e k r on f g h l m = of_rest e k f g h ∙ ap (option_map (head_element e))
    (find_first (λ j. is_linked e j k) 0 (e.board.size * e.board.size) r (omega arith) (omega (arith, on r (linked_first e r k l))) l (λ j u v. m j v))

pub of_other : (e : PlayerBoard) (k : ℕ) → is_empty_at e.board k ≡ false → is_tied e false k ≡ false
    → is_tied e true k ≡ false
    → ((j : ℕ) → is_linked e j k ≡ false) → element_of e k ≡ None
of_other e k f g h m = of_rest e k f g h
    ∙ ap (option_map (head_element e))
    (find_none (λ j. is_linked e j k) 0 (e.board.size * e.board.size) (λ j u v. m j))

-- the flood from one cell finds the stones that are linked to it
pub flood_linked : (e : PlayerBoard) (g none r c k : ℕ)
    → Within e.board.size (stones_of e.board e.player)
    → ((j : ℕ) → has g j ≡ (has none j || j == c)) → ((j : ℕ) → has none j ≡ false)
    → IsTrue (has r k) ↔ Leads e.board.size (stones_of e.board e.player) g k
    → has r k ≡ is_linked e k c
flood_linked e g none r c k on hg hn hr = flood_test e.board.size (stones_of e.board e.player) g
    (λ v. v == c) r k on (λ j. hg j ∙ ap (λ v. v || (j == c)) (hn j)) hr

-- the set of roots is the test of roots
pub root_test : (e : PlayerBoard) (r k : ℕ) → Within e.board.size (stones_of e.board e.player)
    → IsTrue (has r k) ↔ IsRoot e.board.size (stones_of e.board e.player) k
    → has r k ≡ is_root e k
root_test e r k on h = same_test (has r k) (is_root e k)
    (λ t. let u = h.0 t in stone_alone (has (stones_of e.board e.player) k) (list_any (λ j. is_linked e j k) (range_with_len 0 k)) u.0
    (false_from_ne_true (list_any (λ j. is_linked e j k) (range_with_len 0 k)) (λ v. let w = any_out (λ j. is_linked e j k) 0 k v in
    u.1 w.0 (omega (arith, w.1)) (link_out e.board.size (stones_of e.board e.player) w.0 k w.2))))
    (λ t. let u = and_parts (has (stones_of e.board e.player) k) (not (list_any (λ j. is_linked e j k) (range_with_len 0 k))) t in
    h.1 (
      u.0,
      λ j l v. both_ways (list_any (λ i. is_linked e i k) (range_with_len 0 k))
          (not-true (list_any (λ i. is_linked e i k) (range_with_len 0 k)) u.1)
          (any_in (λ i. is_linked e i k) 0 k j (omega arith) (omega arith) (link_in e.board.size (stones_of e.board e.player) j k on v)),
    ))

pub head_test : (e : PlayerBoard) (u l r f g em k : ℕ) → has u k ≡ (has em k || has l k)
    → has l k ≡ ((has r k && not (has f k)) && not (has g k))
    → has em k ≡ is_empty_at e.board k → has r k ≡ is_root e k → has f k ≡ is_tied e false k
    → has g k ≡ is_tied e true k → has u k ≡ is_head e k
head_test e u l r f g em k a b c d x y = a
    ∙ (ap (λ v. v || has l k) c ∙ ap (λ v. is_empty_at e.board k || v)
    (b ∙ (ap (λ v. (v && not (has f k)) && not (has g k)) d ∙ (ap (λ v. (is_root e k && not v) && not (has g k)) x
    ∙ ap (λ v. (is_root e k && not (is_tied e false k)) && not v) y))))

-- ---- the cells of an element

low_head : (b x : ℕ) → 0 < b → 0 ≡ b + x → ⊥
low_head b x h e = absurd (omega arith)

pub joined_low : (j : Bool) → ◌≡◌ {A = ℕ} (if j then 0 else 1) 0 → j ≡ true
joined_low true e = refl
joined_low false e = absurd (omega arith)

some_edges : (e : PlayerBoard) → 0 < edge_elements e
some_edges e = edge_below e false

pub zero_out : (e : PlayerBoard) (k : ℕ) → Within e.board.size (stones_of e.board e.player)
    → element_of e k ≡ Some 0
    → (is_tied e false k ≡ true) ⊎ ((are_joined e ≡ true) × (is_tied e true k ≡ true))
zero_out e k on q = elim (case_of e k on) [
  | is_free i t ↦ absurd
      (low_head (edge_elements e) (count_by (is_head e) (range_with_len 0 k)) (some_edges e) (some_same _ _ (sym q ∙ t)))
  | is_first i t ↦ inl i
  | is_second i j t ↦ inr (joined_low (are_joined e) (sym (some_same _ _ (sym q ∙ t))), j)
  | is_group r i j l m t ↦ absurd
      (low_head (edge_elements e) (count_by (is_head e) (range_with_len 0 r)) (some_edges e) (some_same _ _ (sym q ∙ t)))
  | is_other i j l m t ↦ absurd (none_some _ (sym t ∙ q))
]

pub low_joined : (j : Bool) → j ≡ true → ◌≡◌ {A = ℕ} (if j then 0 else 1) 0
low_joined j h = rw h refl

pub high_apart : (j : Bool) → j ≡ false → ◌≡◌ {A = ℕ} (if j then 0 else 1) 1
high_apart j h = rw h refl

pub zero_in : (e : PlayerBoard) (k : ℕ) → are_joined e ≡ true → is_tied e true k ≡ true
    → element_of e k ≡ Some 0
zero_in e k j h = elim (cases_Bool (is_tied e false k)) [
  | inl t ↦ of_first e k t
  | inr t ↦ of_second e k t h ∙ ap Some (low_joined (are_joined e) j)
]

pub one_out : (e : PlayerBoard) (k : ℕ) → Within e.board.size (stones_of e.board e.player)
    → are_joined e ≡ false → element_of e k ≡ Some 1 → is_tied e true k ≡ true
one_out e k on f q = elim (case_of e k on) [
  | is_free i t ↦ absurd
      (one_head_far (are_joined e) (count_by (is_head e) (range_with_len 0 k)) f (some_same _ _ (sym q ∙ t)))
  | is_first i t ↦ absurd (differ (some_same _ _ (sym q ∙ t)))
  | is_second i j t ↦ j
  | is_group r i j l m t ↦ absurd
      (one_head_far (are_joined e) (count_by (is_head e) (range_with_len 0 r)) f (some_same _ _ (sym q ∙ t)))
  | is_other i j l m t ↦ absurd (none_some _ (sym t ∙ q))
]
  where
    one_head_far : (j : Bool) (x : ℕ) → j ≡ false → 1 ≡ (if j then 1 else 2) + x → ⊥
    one_head_far true x f e = absurd (false≢true (sym f))
    one_head_far false x f e = absurd (omega arith)

    differ : ◌≡◌ {A = ℕ} 1 0 → ⊥
    differ e = absurd (omega arith)

pub one_in : (e : PlayerBoard) (k : ℕ) → are_joined e ≡ false → is_tied e true k ≡ true
    → element_of e k ≡ Some 1
one_in e k f h
    = of_second e k
    (false_from_ne_true (is_tied e false k) (λ t. both_ways (are_joined e) f (tied_joins e k t h))) h
    ∙ ap Some (high_apart (are_joined e) f)

head_number : (e : PlayerBoard) (h a b : ℕ) → ((j : ℕ) → has h j ≡ is_head e j) → is_head e a ≡ true
    → is_head e b ≡ true → head_element e a ≡ head_element e b → a ≡ b
head_number e h a b f i j q
    = one_head h (is_head e) a b f i j
    (cancel (edge_elements e) (count_by (is_head e) (range_with_len 0 a)) (count_by (is_head e) (range_with_len 0 b)) q)
  where
    cancel : (b x y : ℕ) → b + x ≡ b + y → x ≡ y
    cancel b x y e = omega arith

pub high_edge : (b x v : ℕ) → v < b → v ≡ b + x → ⊥
high_edge b x v h e = absurd (omega arith)

-- the cells of an element without an edge: its least cell alone if that is empty, else the
-- stones that are linked to it
pub head_out : (e : PlayerBoard) (h a k : ℕ) → Within e.board.size (stones_of e.board e.player)
    → ((j : ℕ) → has h j ≡ is_head e j) → is_head e a ≡ true
    → element_of e k ≡ Some (head_element e a)
    → ((is_empty_at e.board a ≡ true) × (k ≡ a)) ⊎ ((is_empty_at e.board a ≡ false) × (is_linked e k a ≡ true))
head_out e h a k on f i q = elim (case_of e k on) [
  | is_free u t ↦ let s = head_number e h k a f (empty_head e k u) i (some_same _ _ (sym t ∙ q)) in
      inl (subst (λ v. is_empty_at e.board v ≡ true) s u, s)
  | is_first u t ↦ absurd
      (high_edge (edge_elements e) (count_by (is_head e) (range_with_len 0 a)) 0 (edge_below e false) (some_same _ _ (sym t ∙ q)))
  | is_second u w t ↦ absurd
      (high_edge (edge_elements e) (count_by (is_head e) (range_with_len 0 a)) (edge_element e true) (edge_below e true) (some_same _ _ (sym t ∙ q)))
  | is_group r u w l m t ↦ let s = head_number e h r a f (root_head e r k on u w l m) i
      (some_same _ _ (sym t ∙ q)) in
      inr (
        stone_full e.board e.player a
            (subst (λ v. has (stones_of e.board e.player) v ≡ true) s (linked_first e r k l)),
        linked_back e a k on (subst (λ v. is_linked e v k ≡ true) s l),
      )
  | is_other u w l m t ↦ absurd (none_some _ (sym t ∙ q))
]

root_least : (e : PlayerBoard) (a j : ℕ) → is_root e a ≡ true → j < a → is_linked e j a ≡ false
root_least e a j h l = let u = and_parts (has (stones_of e.board e.player) a)
    (not (list_any (λ i. is_linked e i a) (range_with_len 0 a))) h in
    false_from_ne_true (is_linked e j a)
    (λ t. both_ways (list_any (λ i. is_linked e i a) (range_with_len 0 a)) (not-true (list_any (λ i. is_linked e i a) (range_with_len 0 a)) u.1)
    (any_in (λ i. is_linked e i a) 0 a j (omega arith) (omega arith) t))

pub head_in : (e : PlayerBoard) (a k : ℕ) → Within e.board.size (stones_of e.board e.player)
    → is_head e a ≡ true → is_empty_at e.board a ≡ false → is_linked e k a ≡ true
    → element_of e k ≡ Some (head_element e a)
head_in e a k on i f l = elim (head_cases e a i) [
  | inl t ↦ absurd (both_ways (is_empty_at e.board a) f t)
  | inr t ↦ of_group e k a on (stone_full e.board e.player k (linked_first e k a l))
      (untied e false k a on l t.1) (untied e true k a on l t.2) (linked_back e k a on l)
      (λ j b. false_from_ne_true (is_linked e j k) (λ u. both_ways (is_linked e j a) (root_least e a j t.0 b) (linked_through e j k a on u l)))
]

-- the head at a place is the one with that number
pub head_at : (e : PlayerBoard) (h k m : ℕ) → ((j : ℕ) → has h j ≡ is_head e j)
    → edge_elements e ≤ m → members h k ≡ m - edge_elements e → head_element e k ≡ m
head_at e h k m f l q = sum_of (edge_elements e) (count_by (is_head e) (range_with_len 0 k)) m l
    (sym (members_test h (is_head e) k f) ∙ q)
  where
    sum_of : (b x m : ℕ) → b ≤ m → x ≡ m - b → b + x ≡ m
    sum_of b x m l e = omega arith

pub place_below : (e : PlayerBoard) (h m : ℕ) → Within e.board.size (stones_of e.board e.player)
    → e.board.size ≤ 11 → ((j : ℕ) → has h j ≡ is_head e j) → edge_elements e ≤ m
    → m < element_count e → m - edge_elements e < members h 121
place_below e h m on s f l b = subst (λ v. m - edge_elements e < v) (sym (all_heads e h on s f))
    (rest_below (edge_elements e) m (count_by (is_head e) (cells_of e.board.size)) l b)
  where
    rest_below : (b m c : ℕ) → b ≤ m → m < b + c → m - b < c
    rest_below b m c l h = omega arith

pub single_out : (w none c k : ℕ) → has w k ≡ (has none k || k == c) → has none k ≡ false
    → has w k ≡ true → k ≡ c
single_out w none c k e f h = eqb-true k c (or_rest (has none k) (k == c) f (sym e ∙ h))
  where
    or_rest : (a b : Bool) → a ≡ false → (a || b) ≡ true → b ≡ true
    or_rest true b f h = absurd (false≢true (sym f))
    or_rest false b f h = h

pub single_in : (w none c k : ℕ) → has w k ≡ (has none k || k == c) → k ≡ c → has w k ≡ true
single_in w none c k e q = e ∙ or_right (has none k) (k == c) (eq-eqb k c q)

pub some_below : (e : PlayerBoard) (h k : ℕ) (r : Option ℕ)
    → Within e.board.size (stones_of e.board e.player) → ((j : ℕ) → has h j ≡ is_head e j)
    → r ≡ element_of e k
    → IfSome r (λ x. x < element_count e)
some_below e h k None on f q = tt
some_below e h k (Some x) on f q = element_below e h k x on f (sym q)

pub only_second : (j : Bool) (x : ℕ) → (x ≡ 0 → ⊥) → x < (if j then 1 else 2)
    → (x ≡ 1) × (j ≡ false)
only_second true x n l = absurd (n (omega arith))
only_second false x n l = (omega arith, refl)

pub no_free : (e : PlayerBoard) (h a k x : ℕ) → Within e.board.size (stones_of e.board e.player)
    → ((j : ℕ) → has h j ≡ is_head e j) → is_head e a ≡ true → head_element e a ≡ x
    → is_empty_at e.board a ≡ false → is_empty_at e.board k ≡ true → element_of e k ≡ Some x → ⊥
no_free e h a k x on f i n g u q = elim (head_out e h a k on f i (q ∙ ap Some (sym n))) [
  | inl t ↦ both_ways (is_empty_at e.board a) g t.0
  | inr t ↦ both_ways (is_empty_at e.board k)
      (stone_full e.board e.player k (linked_first e k a t.1)) u
]
