-- Entries that share a middle.
use Rattle.std.proofs.Common.{◌≡◌, ℕ, ◌<◌, min, max, true, bit_or, sym, ◌∙◌, subst, inl, inr, arith}
use Rattle.hex_cells.specs.Sets.{with_cell}
use Rattle.hex_cells.proofs.WithCell.{with_cell-cases}
use Rattle.hex_board.specs.Elements.{PlayerBoard, HasCell, element_count}
use Rattle.hex_board.specs.Positions.{AllEmpty, is_empty_at}
use Rattle.hex_board.proofs.Parts.{some_same}
use Rattle.conn_store.specs.Entries.{IsBetween, IsValid, Misses}
use Rattle.conn_store.specs.Rules.{AndRule, IsCell, IsChain, both_of}
use Rattle.conn_store.specs.declared.entries.Entry.{Entry}
use Rattle.conn_store.proofs.RuleTruth.{least_first}
use Rattle.conn_store.proofs.Sureness.{in_union}

-- the ends are met in one way alone
pub one_chain : (a b : Entry) (x u y v w z : ℕ) → a.x < a.y → b.x < b.y → IsChain a b x u y
    → IsChain a b v w z → (x ≡ v) × (u ≡ w) × (y ≡ z)
one_chain a b x u y v w z l m h i =
    let ne : x ≡ y → ⊥ = h.ends in
    let nf : v ≡ z → ⊥ = i.ends in
    elim (least_first x u a.x a.y h.first.0 h.first.1) [
      | inl p ↦ elim (least_first u y b.x b.y h.second.0 h.second.1) [
        | inl q ↦ elim (least_first v w a.x a.y i.first.0 i.first.1) [
          | inl r ↦ elim (least_first w z b.x b.y i.second.0 i.second.1) [ inl s ↦ (omega arith, omega arith, omega arith) | inr s ↦ absurd (omega arith) ]
          | inr r ↦ elim (least_first w z b.x b.y i.second.0 i.second.1) [ inl s ↦ absurd (omega arith) | inr s ↦ absurd (omega arith) ]
        ]
        | inr q ↦ elim (least_first v w a.x a.y i.first.0 i.first.1) [
          | inl r ↦ elim (least_first w z b.x b.y i.second.0 i.second.1) [ inl s ↦ absurd (omega arith) | inr s ↦ (omega arith, omega arith, omega arith) ]
          | inr r ↦ elim (least_first w z b.x b.y i.second.0 i.second.1) [ inl s ↦ absurd (omega arith) | inr s ↦ absurd (omega arith) ]
        ]
      ]
      | inr p ↦ elim (least_first u y b.x b.y h.second.0 h.second.1) [
        | inl q ↦ elim (least_first v w a.x a.y i.first.0 i.first.1) [
          | inl r ↦ elim (least_first w z b.x b.y i.second.0 i.second.1) [ inl s ↦ absurd (omega arith) | inr s ↦ absurd (omega arith) ]
          | inr r ↦ elim (least_first w z b.x b.y i.second.0 i.second.1) [ inl s ↦ (omega arith, omega arith, omega arith) | inr s ↦ absurd (omega arith) ]
        ]
        | inr q ↦ elim (least_first v w a.x a.y i.first.0 i.first.1) [
          | inl r ↦ elim (least_first w z b.x b.y i.second.0 i.second.1) [ inl s ↦ absurd (omega arith) | inr s ↦ absurd (omega arith) ]
          | inr r ↦ elim (least_first w z b.x b.y i.second.0 i.second.1) [ inl s ↦ absurd (omega arith) | inr s ↦ (omega arith, omega arith, omega arith) ]
        ]
      ]
    ]

-- what an entry's carrier misses
pub misses_of : (e : PlayerBoard) (a : Entry) (x u : ℕ) → IsValid e a → IsBetween a x u
    → Misses e x a.carrier × Misses e u a.carrier
misses_of e a x u v h = elim (least_first x u a.x a.y h.0 h.1) [
  | inl p ↦ (subst (λ w. Misses e w a.carrier) p.0 v.first, subst (λ w. Misses e w a.carrier) p.1 v.second)
  | inr p ↦ (subst (λ w. Misses e w a.carrier) p.1 v.second, subst (λ w. Misses e w a.carrier) p.0 v.first)
]

pub misses_both : (e : PlayerBoard) (x c d : ℕ) → Misses e x c → Misses e x d
    → Misses e x (bit_or c d)
misses_both e x c d f g k h i = elim (in_union c d k i) [ inl o ↦ f k h o | inr o ↦ g k h o ]

pub misses_more : (e : PlayerBoard) (x u c k : ℕ) → Misses e x c → HasCell e u k → (x ≡ u → ⊥)
    → Misses e x (with_cell c k)
misses_more e x u c k f g n j h i = elim (with_cell-cases c k j i) [
  | inl o ↦ f j h o
  | inr o ↦ n (some_same x u (sym h ∙ subst (λ v. HasCell e u v) (sym o) g))
]

pub empty_both : (e : PlayerBoard) (c d : ℕ) → AllEmpty e.board c → AllEmpty e.board d
    → AllEmpty e.board (bit_or c d)
empty_both e c d f g k h = elim (in_union c d k h) [ inl o ↦ f k o | inr o ↦ g k o ]

pub empty_more : (e : PlayerBoard) (c k : ℕ) → AllEmpty e.board c → is_empty_at e.board k ≡ true
    → AllEmpty e.board (with_cell c k)
empty_more e c k f g j h
    = elim (with_cell-cases c k j h) [ inl o ↦ f j o | inr o ↦ subst (λ v. is_empty_at e.board v ≡ true) (sym o) g ]

-- a pair with a carrier that misses both
pub valid_from : (e : PlayerBoard) (entry : Entry) (x y c : ℕ) → IsBetween entry x y → (x ≡ y → ⊥)
    → x < element_count e → y < element_count e → entry.carrier ≡ c
    → AllEmpty e.board c → Misses e x c → Misses e y c → IsValid e entry
valid_from e entry x y c h n l m q f g i = elim (least_first x y entry.x entry.y h.0 h.1) [
  | inl p ↦ record {
    order = omega (arith, h.0, h.1, n);
    elements = rw p.1 m;
    empty = subst (λ v. AllEmpty e.board v) (sym q) f;
    first = subst (λ v. Misses e entry.x v) (sym q) (subst (λ v. Misses e v c) (sym p.0) g);
    second = subst (λ v. Misses e entry.y v) (sym q) (subst (λ v. Misses e v c) (sym p.1) i);
  }
  | inr p ↦ record {
    order = omega (arith, h.0, h.1, n);
    elements = rw p.1 l;
    empty = subst (λ v. AllEmpty e.board v) (sym q) f;
    first = subst (λ v. Misses e entry.x v) (sym q) (subst (λ v. Misses e v c) (sym p.0) i);
    second = subst (λ v. Misses e entry.y v) (sym q) (subst (λ v. Misses e v c) (sym p.1) g);
  }
]

pub ends_below : (e : PlayerBoard) (a : Entry) (x u : ℕ) → IsValid e a → IsBetween a x u
    → (x < element_count e) × (u < element_count e) × (x ≡ u → ⊥)
ends_below e a x u v h = below (element_count e) x u a.x a.y v.order v.elements h.0 h.1
  where
    below : (n x u p q : ℕ) → p < q → q < n → p ≡ min x u → q ≡ max x u
        → (x < n) × (u < n) × (x ≡ u → ⊥)
    below n x u p q l m e f = (omega arith, omega arith, λ g. absurd (omega arith))

-- what the rules of AND give is valid: over a group, and over an empty cell
pub group_valid : (e : PlayerBoard) (a b entry : Entry) (x u y : ℕ) → IsValid e a → IsValid e b
    → AndRule e a b x u y → IsBetween entry x y → entry.carrier ≡ both_of a b → IsValid e entry
group_valid e a b entry x u y v w r h q =
    let f = misses_of e a x u v r.chain.first in
    let g = misses_of e b u y w r.chain.second in
    valid_from e entry x y (both_of a b) h r.chain.ends (ends_below e a x u v r.chain.first).0
    (ends_below e b u y w r.chain.second).1 q
    (empty_both e a.carrier b.carrier v.empty w.empty)
    (misses_both e x a.carrier b.carrier f.0 r.first_end)
    (misses_both e y a.carrier b.carrier r.second_end g.1)

pub cell_valid : (e : PlayerBoard) (a b entry : Entry) (x u y k : ℕ) → IsValid e a → IsValid e b
    → AndRule e a b x u y → IsCell e u k → IsBetween entry x y
    → entry.carrier ≡ with_cell (both_of a b) k → IsValid e entry
cell_valid e a b entry x u y k v w r c h q =
    let f = misses_of e a x u v r.chain.first in
    let g = misses_of e b u y w r.chain.second in
    let l = ends_below e a x u v r.chain.first in
    let m = ends_below e b u y w r.chain.second in
    valid_from e entry x y (with_cell (both_of a b) k) h r.chain.ends l.0 m.1 q
    (empty_more e (both_of a b) k (empty_both e a.carrier b.carrier v.empty w.empty) c.0)
    (misses_more e x u (both_of a b) k (misses_both e x a.carrier b.carrier f.0 r.first_end) c.1 l.2)
    (misses_more e y u (both_of a b) k (misses_both e y a.carrier b.carrier r.second_end g.1) c.1 (λ z. m.2 (sym z)))
