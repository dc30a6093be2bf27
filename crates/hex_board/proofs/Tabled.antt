-- The tables of the cells of each element, and of the cells beside it.
use Rattle.std.proofs.Common.{◌≡◌, ℕ, ◌+◌, ◌<◌, ◌||◌, ◌⊎◌, ◌↔◌, IsTrue, true, Bool, List, length}
use Rattle.std.proofs.Common.{get_or, set, sym, ◌∙◌, ap, subst, arith, inl, inr}
use Rattle.std.proofs.lemmas.Bool.{or_cases, or_left, or_right, cases_eq}
use Rattle.std.proofs.lemmas.List.{get_or_default, get_or-set_same, get_or-set_other}
use Rattle.hex_cells.specs.Sets.{has}
use Rattle.hex_cells.specs.Graph.{Bordered, Neighbour}
use Rattle.hex_board.specs.Elements.{PlayerBoard, HasCell}
use Rattle.hex_board.specs.Places.{at_cell, at_edge}
use Rattle.hex_board.specs.ElementTables.{IsOnEdgeOf, Reaches, Meets}

-- one entry more of a table
pub set_more : (Q : ℕ → ℕ → Type 0) (xs : List ℕ) (x v : ℕ) → x < length xs
    → ((j k : ℕ) → j < x → IsTrue (has (get_or xs j 0) k) ↔ Q j k)
    → ((k : ℕ) → IsTrue (has v k) ↔ Q x k) → (j k : ℕ) → j < x + 1
    → IsTrue (has (get_or (set xs x v) j 0) k) ↔ Q j k
set_more Q xs x v l f g j k b = elim (cases_eq j x) [
  | inl e ↦ let r : get_or (set xs x v) j 0 ≡ v = ap (λ i. get_or (set xs x v) i 0) e
      ∙ get_or-set_same xs x v 0 l in
      subst (λ w. IsTrue (has w k) ↔ Q j k) (sym r)
      (subst (λ i. IsTrue (has v k) ↔ Q i k) (sym e) (g k))
  | inr n ↦ subst (λ w. IsTrue (has w k) ↔ Q j k) (sym (get_or-set_other xs x j v 0 n))
      (f j k (omega arith))
]

-- what is read from a table, at any default
pub read : (Q : ℕ → ℕ → Type 0) (xs : List ℕ) (x d k : ℕ) → x < length xs
    → IsTrue (has (get_or xs x 0) k) ↔ Q x k → IsTrue (has (get_or xs x d) k) ↔ Q x k
read Q xs x d k l h = subst (λ w. IsTrue (has w k) ↔ Q x k) (get_or_default xs x 0 d l) h

-- the cells beside an element are those around its cells, and those of its edges
pub beside : (e : PlayerBoard) (x part a b u : ℕ) (k n : ℕ) → n ≡ e.board.size
    → ((j : ℕ) → IsTrue (has part j) ↔ HasCell e x j) → IsTrue (has a k) ↔ Bordered n part k
    → IsTrue (has b k) ↔ IsOnEdgeOf e x k → has u k ≡ (has a k || has b k)
    → IsTrue (has u k) ↔ Reaches e x k
beside e x part a b u k n q hp ha hb hu = (
  (λ h. elim (or_cases (has a k) (has b k) (sym hu ∙ h)) [
    | inl t ↦ let w = ha.0 t in (at_cell w.0, (hp w.0).0 w.1, subst (λ m. Neighbour m w.0 k) q w.2)
    | inr t ↦ let w = hb.0 t in (at_edge w.0, w.1, w.2)
  ]),
  (λ r. elim (parts e x k r) [
    | inl t ↦ hu ∙ or_left (has a k) (has b k)
        (ha.1 (t.0, (hp t.0).1 t.1, subst (λ m. Neighbour m t.0 k) (sym q) t.2))
    | inr t ↦ hu ∙ or_right (has a k) (has b k) (hb.1 t)
  ]),
)
  where
    parts : (e : PlayerBoard) (x k : ℕ) → Reaches e x k
        → ((a : ℕ) × HasCell e x a × Neighbour e.board.size a k) ⊎ IsOnEdgeOf e x k
    parts e x k (at_cell a, h, b) = inl (a, h, b)
    parts e x k (at_edge second, h, b) = inr (second, h, b)

-- two sets of the tables meet if one element has a cell beside the other
pub sets_meet : (e : PlayerBoard) (x y p q : ℕ) (r : Bool)
    → ((k : ℕ) → IsTrue (has p k) ↔ Reaches e x k) → ((k : ℕ) → IsTrue (has q k) ↔ HasCell e y k)
    → IsTrue r ↔ ((k : ℕ) × (has p k ≡ true) × (has q k ≡ true)) → IsTrue r ↔ Meets e x y
sets_meet e x y p q r hp hq hr = (
  (λ h. let w = hr.0 h in (w.0, (hp w.0).0 w.1, (hq w.0).0 w.2)),
  (λ m. hr.1 (m.0, (hp m.0).1 m.1, (hq m.0).1 m.2)),
)
