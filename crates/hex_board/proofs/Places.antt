-- Places: the tests of Beside, IsMember and Near, and the one empty cell of an element.
use Rattle.std.proofs.Common.{◌≡◌, ℕ, ◌*◌, ◌<◌, ◌==◌, ◌&&◌, ◌||◌, ◌⊎◌, ◌↔◌, IsTrue, not, true}
use Rattle.std.proofs.Common.{false, Bool, List, [], ◌∷◌, Option, Some, None, map, refl, sym, ◌∙◌}
use Rattle.std.proofs.Common.{ap, arith, inl, inr, nat_eq, IfSome, IfNone, MatchOption}
use Rattle.std.specs.List.{list_any}
use Rattle.std.specs.Option.{option_eq}
use Rattle.std.proofs.lemmas.Bool.{and_parts, and_from, or_cases, or_left, or_right, both_ways}
use Rattle.std.proofs.lemmas.Bool.{eqb-true, eq-eqb, ne_eqb, false≢true, false_from_ne_true}
use Rattle.std.proofs.lemmas.Bool.{not-true, not_from_false}
use Rattle.hex_cells.specs.Sets.{has}
use Rattle.hex_cells.specs.declared.colours.Colour.{Colour}
use Rattle.hex_cells.proofs.Ranges.{find_first, find_none}
use Rattle.hex_cells.proofs.Beside.{neighbour_in, neighbour_out, same_test}
use Rattle.hex_board.specs.Elements.{PlayerBoard, HasCell, edge_element, element_of, is_linked}
use Rattle.hex_board.specs.ElementTables.{Meets}
use Rattle.hex_board.specs.Joined.{cells_of}
use Rattle.hex_board.specs.Places.{Place, at_cell, at_edge, Beside, IsMember, Near, are_beside}
use Rattle.hex_board.specs.Places.{cell_of, is_member, is_near, places_of}
use Rattle.hex_board.specs.Positions.{Within, stones_of, is_empty_at}
use Rattle.hex_board.proofs.GroupLaws.{one_element}
use Rattle.hex_board.proofs.Parts.{linked_first, tied_full}
use Rattle.hex_board.proofs.Placed.{empty_on, stone_full}
use Rattle.hex_board.proofs.Reach.{back}
use Rattle.hex_board.proofs.Search.{any_in, any_out}
use Rattle.hex_cells.proofs.Tables.{edge_on}

-- ---- beside

pub beside_back : (n : ℕ) (player : Colour) (p q : Place) → Beside n player p q
    → Beside n player q p
beside_back n player (at_cell a) (at_cell b) h = back n a b h
beside_back n player (at_cell a) (at_edge second) h = h
beside_back n player (at_edge second) (at_cell b) h = h
beside_back n player (at_edge second) (at_edge other) h = h

pub beside_in : (n : ℕ) (player : Colour) (p q : Place) → Beside n player p q
    → are_beside n player p q ≡ true
beside_in n player (at_cell a) (at_cell b) h = neighbour_in n a b h
beside_in n player (at_cell a) (at_edge second) h = h
beside_in n player (at_edge second) (at_cell b) h = h
beside_in n player (at_edge second) (at_edge other) h = absurd h

pub beside_out : (n : ℕ) (player : Colour) (p q : Place) → are_beside n player p q ≡ true
    → Beside n player p q
beside_out n player (at_cell a) (at_cell b) h = neighbour_out n a b h
beside_out n player (at_cell a) (at_edge second) h = h
beside_out n player (at_edge second) (at_cell b) h = h
beside_out n player (at_edge second) (at_edge other) h = absurd (false≢true h)

-- ---- members

pub cell_in : (e : PlayerBoard) (x k : ℕ) → HasCell e x k → is_member e x (at_cell k) ≡ true
cell_in e x k h = ap (λ o. option_eq nat_eq o (Some x)) h ∙ eq-eqb x x refl

pub cell_out : (e : PlayerBoard) (x k : ℕ) → is_member e x (at_cell k) ≡ true → HasCell e x k
cell_out e x k h = out (element_of e k) x h
  where
    out : (o : Option ℕ) (x : ℕ) → option_eq nat_eq o (Some x) ≡ true → o ≡ Some x
    out None x h = absurd (false≢true h)
    out (Some y) x h = ap Some (eqb-true y x h)

pub member_in : (e : PlayerBoard) (x : ℕ) (p : Place) → IsMember e x p → is_member e x p ≡ true
member_in e x (at_cell k) h = cell_in e x k h
member_in e x (at_edge second) h = eq-eqb (edge_element e second) x h

pub member_out : (e : PlayerBoard) (x : ℕ) (p : Place) → is_member e x p ≡ true → IsMember e x p
member_out e x (at_cell k) h = cell_out e x k h
member_out e x (at_edge second) h = eqb-true (edge_element e second) x h

-- ---- the places of a board

-- a place of the board: an edge, or a cell on it
abbrev pub IsPlaceOf : ℕ → Place → Type 0
IsPlaceOf n (at_cell k) = k < n * n
IsPlaceOf n (at_edge second) = Unit {0}

beside_first : (n : ℕ) (player : Colour) (p q : Place) → Beside n player p q → IsPlaceOf n p
beside_first n player (at_cell a) (at_cell b) h = h.from
beside_first n player (at_cell a) (at_edge second) h = edge_on player second n a h
beside_first n player (at_edge second) q h = tt

any_mapped : (p : Place → Bool) (xs : List ℕ)
    → list_any p (map at_cell xs) ≡ list_any (λ k. p (at_cell k)) xs
any_mapped p [] = refl
any_mapped p (x ∷ xs) = ap (λ v. p (at_cell x) || v) (any_mapped p xs)

pub place_out : (p : Place → Bool) (n : ℕ) → list_any p (places_of n) ≡ true
    → (q : Place) × (p q ≡ true)
place_out p n h
    = elim (or_cases (p (at_edge false)) (p (at_edge true) || list_any p (map at_cell (cells_of n))) h) [
      | inl t ↦ (at_edge false, t)
      | inr t ↦ elim (or_cases (p (at_edge true)) (list_any p (map at_cell (cells_of n))) t) [
        | inl u ↦ (at_edge true, u)
        | inr u ↦ let w
            = any_out (λ k. p (at_cell k)) 0 (n * n) (sym (any_mapped p (cells_of n)) ∙ u) in
            (at_cell w.0, w.2)
      ]
    ]

pub place_in : (p : Place → Bool) (n : ℕ) (q : Place) → IsPlaceOf n q → p q ≡ true
    → list_any p (places_of n) ≡ true
place_in p n (at_edge false) on h
    = or_left (p (at_edge false)) (p (at_edge true) || list_any p (map at_cell (cells_of n))) h
place_in p n (at_edge true) on h
    = or_right (p (at_edge false)) (p (at_edge true) || list_any p (map at_cell (cells_of n)))
    (or_left (p (at_edge true)) (list_any p (map at_cell (cells_of n))) h)
place_in p n (at_cell k) on h
    = or_right (p (at_edge false)) (p (at_edge true) || list_any p (map at_cell (cells_of n)))
    (or_right (p (at_edge true)) (list_any p (map at_cell (cells_of n)))
    (any_mapped p (cells_of n) ∙ any_in (λ j. p (at_cell j)) 0 (n * n) k (omega arith) (omega arith) h))

-- ---- near

-- a cell of one lies beside a place of the other
pub near_from : (e : PlayerBoard) (x y : ℕ) → (x ≡ y → ⊥) → Meets e x y ⊎ Meets e y x → Near e x y
near_from e x y n (inl (k, (p, h, b), i)) = (n, p, at_cell k, h, i, b)
near_from e x y n (inr (k, (p, h, b), i))
    = (n, at_cell k, p, i, h, beside_back e.board.size e.player p (at_cell k) b)

pub near_meets : (e : PlayerBoard) (x y : ℕ) → Near e x y → Meets e x y ⊎ Meets e y x
near_meets e x y (n, p, at_cell k, h, i, b) = inl (k, (p, h, b), i)
near_meets e x y (n, at_cell k, at_edge second, h, i, b) = inr (k, (at_edge second, i, b), h)
near_meets e x y (n, at_edge other, at_edge second, h, i, b) = absurd b

pub near_in : (e : PlayerBoard) (x y : ℕ) → Near e x y → is_near e x y ≡ true
near_in e x y (n, p, q, h, i, b) =
    let size = e.board.size in
    let next : Place → Bool = λ r. is_member e y r && are_beside size e.player p r in
    let found : list_any next (places_of size) ≡ true =
    place_in next size q (beside_first size e.player q p (beside_back size e.player p q b))
    (and_from (is_member e y q) (are_beside size e.player p q) (member_in e y q i) (beside_in size e.player p q b)) in
    and_from (not (x == y)) _ (not_from_false (x == y) (ne_eqb x y n))
    (place_in (λ r. is_member e x r && list_any (λ s. is_member e y s && are_beside size e.player r s) (places_of size)) size p
    (beside_first size e.player p q b)
    (and_from (is_member e x p) (list_any next (places_of size)) (member_in e x p h) found))

pub near_out : (e : PlayerBoard) (x y : ℕ) → is_near e x y ≡ true → Near e x y
near_out e x y h =
    let size = e.board.size in
    let from : Place → Bool
    = λ r. is_member e x r && list_any (λ s. is_member e y s && are_beside size e.player r s)
    (places_of size) in
    let t = and_parts (not (x == y)) (list_any from (places_of size)) h in
    let p = place_out from size t.1 in
    let next : Place → Bool = λ s. is_member e y s && are_beside size e.player p.0 s in
    let u = and_parts (is_member e x p.0) (list_any next (places_of size)) p.1 in
    let q = place_out next size u.1 in
    let v = and_parts (is_member e y q.0) (are_beside size e.player p.0 q.0) q.1 in (
      λ z. both_ways (x == y) (not-true (x == y) t.0) (eq-eqb x y z),
      p.0,
      q.0,
      member_out e x p.0 u.0,
      member_out e y q.0 v.0,
      beside_out size e.player p.0 q.0 v.1,
    )

pub near_decided : (e : PlayerBoard) (x y : ℕ) → IsTrue (is_near e x y) ↔ Near e x y
near_decided e x y = (near_out e x y, near_in e x y)

pub near_test : (e : PlayerBoard) (x y : ℕ) (r : Bool) → IsTrue r ↔ Near e x y → r ≡ is_near e x y
near_test e x y r h = same_test r (is_near e x y) (λ t. near_in e x y (h.0 t))
    (λ t. h.1 (near_out e x y t))

-- ---- an element that is an empty cell

pub empty_alone : (e : PlayerBoard) (x a b : ℕ) → Within e.board.size (stones_of e.board e.player)
    → is_empty_at e.board a ≡ true
    → HasCell e x a → HasCell e x b → a ≡ b
empty_alone e x a b on f h i = elim (one_element e x a b on h i) [
  | inl q ↦ q
  | inr o ↦ elim o [
    | inl l ↦ absurd (both_ways (is_empty_at e.board a) (linked_full e a b l) f)
    | inr t ↦ absurd (both_ways (is_empty_at e.board a) (tied_full e t.0 a t.2) f)
  ]
]
  where
    linked_full : (e : PlayerBoard) (a b : ℕ) → is_linked e a b ≡ true
        → is_empty_at e.board a ≡ false
    linked_full e a b l = stone_full e.board e.player a (linked_first e a b l)

-- the cell that is found is the element's one empty cell
pub cell_test : (e : PlayerBoard) (x : ℕ) (r : Option ℕ)
    → Within e.board.size (stones_of e.board e.player)
    → IfSome r (λ k. (is_empty_at e.board k ≡ true) × HasCell e x k)
    → IfNone r ((k : ℕ) → is_empty_at e.board k ≡ true → ¬ (HasCell e x k)) → r ≡ cell_of e x
cell_test e x None on some none
    = sym (find_none (λ k. is_empty_at e.board k && is_member e x (at_cell k)) 0 (e.board.size * e.board.size)
    (λ j _ _. false_from_ne_true (is_empty_at e.board j && is_member e x (at_cell j)) (λ t.
    let u = and_parts (is_empty_at e.board j) (is_member e x (at_cell j)) t in
    none j u.0 (cell_out e x j u.1))))
cell_test e x (Some k) on some none
    = sym (find_first (λ j. is_empty_at e.board j && is_member e x (at_cell j)) 0 (e.board.size * e.board.size) k (omega arith)
    (omega (arith, empty_on e.board k some.0))
    (and_from (is_empty_at e.board k) (is_member e x (at_cell k)) some.0 (cell_in e x k some.1))
    (λ j _ l. false_from_ne_true (is_empty_at e.board j && is_member e x (at_cell j)) (λ t.
    let u = and_parts (is_empty_at e.board j) (is_member e x (at_cell j)) t in
    let q : j ≡ k = empty_alone e x j k on u.0 (cell_out e x j u.1) some.1 in omega arith)))

-- what is found in the cells of an element that are empty
pub free_found : (e : PlayerBoard) (x cells free both : ℕ) (r : Option ℕ)
    → ((k : ℕ) → IsTrue (has cells k) ↔ HasCell e x k)
    → ((k : ℕ) → has free k ≡ is_empty_at e.board k)
    → ((k : ℕ) → has both k ≡ (has cells k && has free k))
    → MatchOption r ((k : ℕ) → has both k ≡ false)
    (λ c. (has both c ≡ true) × ((k : ℕ) → k < c → has both k ≡ false))
    → IfSome r (λ k. (is_empty_at e.board k ≡ true) × HasCell e x k)
    × IfNone r ((k : ℕ) → is_empty_at e.board k ≡ true → ¬ (HasCell e x k))
free_found e x cells free both None hc hf hb m = (
  tt,
  λ k f h. both_ways (has both k) (m k)
      (hb k ∙ and_from (has cells k) (has free k) ((hc k).1 h) (hf k ∙ f)),
)
free_found e x cells free both (Some c) hc hf hb m =
    let t = and_parts (has cells c) (has free c) (sym (hb c) ∙ m.0) in
    ((sym (hf c) ∙ t.1, (hc c).0 t.0), tt)
