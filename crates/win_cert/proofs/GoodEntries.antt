-- Entries that are true and whose carriers are empty cells outside their elements: what the rules
-- of adjacent elements, of chains and of cases give of them.
use Rattle.std.proofs.Common.{◌≡◌, ℕ, ◌+◌, min, max, bit_or, true, false, sym, subst, inl, inr, ◌⊎◌}
use Rattle.std.proofs.Common.{zero, suc, arith}
use Rattle.std.proofs.lemmas.Bool.{cases_lt, both_ways, false_from_ne_true}
use Rattle.hex_cells.specs.Sets.{has, members, with_cell, without_cell}
use Rattle.hex_cells.proofs.Bits.{has_none}
use Rattle.hex_cells.proofs.Counts.{members_sub}
use Rattle.hex_cells.proofs.WithCell.{with_cell-here, with_cell-keeps}
use Rattle.hex_board.specs.Elements.{PlayerBoard}
use Rattle.hex_board.specs.Places.{Near}
use Rattle.hex_board.specs.Positions.{AllEmpty, stones_of}
use Rattle.conn_store.specs.Entries.{Connects, Misses}
use Rattle.conn_store.specs.Laws.{IsSubset}
use Rattle.conn_store.specs.Links.{StonesLink}
use Rattle.conn_store.specs.Rules.{IsCell, IsGroup}
use Rattle.conn_store.specs.Truth.{IsSure, IsSureIn}
use Rattle.conn_store.specs.declared.entries.Kind.{Kind}
use Rattle.conn_store.specs.declared.entries.Kind.TheVariants.{Full, Semi}
use Rattle.conn_store.proofs.Chains.{empty_both, misses_both, misses_more, empty_more}
use Rattle.conn_store.proofs.Sureness.{Disjoint, IsKept, same, sure_both, sure_more, sure_over}
use Rattle.conn_store.proofs.Sureness.{sure_trimmed, sure_wider, union_left, union_right, kept_out}
use Rattle.conn_store.proofs.Ways.{linked_back, linked_kept, near_linked}
use Rattle.win_cert.proofs.LinksOn.{cell_links, group_links}
use Rattle.win_cert.proofs.ScopeBoards.{IsSmallBoard, empty_small}

-- an entry of x and y that is true, with a carrier of empty cells outside x and y
pub record IsGood (e : PlayerBoard) (kind : Kind) (x y c : ℕ) : Type 0 where
  pub empty : AllEmpty e.board c
  pub first : Misses e x c
  pub second : Misses e y c
  pub holds : Connects kind e x y (stones_of e.board e.player) c

-- what is proved with some number of stones
pub concluded : (e : PlayerBoard) (n : ℕ) (kind : Kind) (x y c : ℕ) → IsSmallBoard e
    → AllEmpty e.board c
    → IsSureIn n kind (StonesLink e x y) (stones_of e.board e.player) c
    → Connects kind e x y (stones_of e.board e.player) c
concluded e n kind x y c m f g = sure_trimmed n (members c 121) kind (StonesLink e x y)
    (stones_of e.board e.player) c (empty_small e c m f) (omega arith) g

-- ---- the elements of an entry in the other order

pub good_turned : (e : PlayerBoard) (kind : Kind) (x y c : ℕ) → IsGood e kind x y c
    → IsGood e kind y x c
good_turned e kind x y c g = record {
  empty = g.empty;
  first = g.second;
  second = g.first;
  holds = sure_more (members c 121) (members c 121) kind (StonesLink e x y) (StonesLink e y x)
      (stones_of e.board e.player) (stones_of e.board e.player) c c (omega arith)
      (same (stones_of e.board e.player)) (same c)
      (λ a b p q l. linked_kept e y x a b q (linked_back e x y a l)) g.holds;
}

least_first : (x y : ℕ) → ((min x y ≡ x) × (max x y ≡ y)) ⊎ ((min x y ≡ y) × (max x y ≡ x))
least_first x y
    = elim (cases_lt x y) [ inl l ↦ inl (omega arith, omega arith) | inr l ↦ inr (omega arith, omega arith) ]

pub good_between : (e : PlayerBoard) (kind : Kind) (x y c : ℕ) → IsGood e kind x y c
    → IsGood e kind (min x y) (max x y) c
good_between e kind x y c g = elim (least_first x y) [
  | inl p ↦ subst (λ v. IsGood e kind (min x y) v c) (sym p.1)
      (subst (λ v. IsGood e kind v y c) (sym p.0) g)
  | inr p ↦ subst (λ v. IsGood e kind (min x y) v c) (sym p.1)
      (subst (λ v. IsGood e kind v x c) (sym p.0) (good_turned e kind x y c g))
]

-- ---- linked already

pub none_empty : (e : PlayerBoard) → AllEmpty e.board 0
none_empty e k h = absurd (both_ways (has 0 k) (has_none k) h)

pub none_missed : (e : PlayerBoard) (x : ℕ) → Misses e x 0
none_missed e x k i h = both_ways (has 0 k) (has_none k) h

-- elements that are linked
pub good_linked : (e : PlayerBoard) (x y : ℕ) → IsSmallBoard e
    → StonesLink e x y (stones_of e.board e.player) → IsGood e Full x y 0
good_linked e x y m l = record {
  empty = none_empty e;
  first = none_missed e x;
  second = none_missed e y;
  holds = concluded e 0 Full x y 0 m (none_empty e) l;
}

pub good_near : (e : PlayerBoard) (x y : ℕ) → IsSmallBoard e → Near e x y → IsGood e Full x y 0
good_near e x y m h = good_linked e x y m (near_linked e x y (stones_of e.board e.player) h)

-- ---- chains

-- the middle is a group
pub good_group : (e : PlayerBoard) (x u y a b : ℕ) → IsSmallBoard e → IsGood e Full x u a
    → IsGood e Full u y b → Disjoint a b → Misses e x b → Misses e y a → IsGroup e u
    → IsGood e Full x y (bit_or a b)
good_group e x u y a b m g h d mx my r = record {
  empty = empty_both e a b g.empty h.empty;
  first = misses_both e x a b g.first mx;
  second = misses_both e y a b my h.second;
  holds = concluded e (members a 121 + members b 121) Full x y (bit_or a b) m
      (empty_both e a b g.empty h.empty)
      (sure_both (members a 121 + members b 121) (members a 121) (members b 121) Full (StonesLink e x u) (StonesLink e u y) (StonesLink e x y)
      (stones_of e.board e.player) a b (bit_or a b)
      (omega arith) (linked_kept e x u) (linked_kept e u y) (linked_kept e x y)
      (λ t i j k. group_links e x u y t i r j k) d (union_left a b) (union_right a b)
      g.holds h.holds);
}

-- the middle is an empty cell
pub good_cell : (e : PlayerBoard) (x u y a b k : ℕ) → IsSmallBoard e → IsGood e Full x u a
    → IsGood e Full u y b → Disjoint a b → Misses e x b → Misses e y a → IsCell e u k
    → (x ≡ u → ⊥) → (y ≡ u → ⊥) → IsGood e Semi x y (with_cell (bit_or a b) k)
good_cell e x u y a b k m g h d mx my r nx ny =
    let both : AllEmpty e.board (with_cell (bit_or a b) k)
    = empty_more e (bit_or a b) k (empty_both e a b g.empty h.empty) r.0 in
    record {
      empty = both;
      first = misses_more e x u (bit_or a b) k (misses_both e x a b g.first mx) r.1 nx;
      second = misses_more e y u (bit_or a b) k (misses_both e y a b my h.second) r.1 ny;
      holds = concluded e (suc (members a 121 + members b 121)) Semi x y
          (with_cell (bit_or a b) k) m both
          (sure_over (members a 121 + members b 121) (members a 121) (members b 121) k (StonesLink e x u) (StonesLink e u y) (StonesLink e x y)
          (stones_of e.board e.player) a b
          (with_cell (bit_or a b) k) (omega arith) (linked_kept e x u) (linked_kept e u y)
          (linked_kept e x y)
          (λ t i j l. cell_links e x u y k t r (i k (with_cell-here (stones_of e.board e.player) k)) j l) d
          (λ z i. with_cell-keeps (bit_or a b) k z (union_left a b z i))
          (λ z i. with_cell-keeps (bit_or a b) k z (union_right a b z i))
          (false_from_ne_true (has a k) (g.second k r.1))
          (false_from_ne_true (has b k) (h.first k r.1))
          (with_cell-here (bit_or a b) k) g.holds h.holds);
    }

-- ---- cases

-- a carrier inside c, without cell k, in which the player is sure of the goal if he places first
abbrev pub Leaves : (ℕ → Type 0) → ℕ → ℕ → ℕ → Type 0
Leaves G s c k = (a : ℕ) × IsSubset a c × (has a k ≡ false) × IsSure Semi G s a

-- the player is sure in some case, and each stone of the opponent leaves him a case
pub sure_by_cases : (n : ℕ) (G : ℕ → Type 0) (s a c : ℕ) → IsKept G → IsSubset a c
    → IsSureIn n Semi G s a
    → ((k : ℕ) → has c k ≡ true → Leaves G s c k) → IsSureIn (suc (members c 121)) Full G s c
sure_by_cases zero G s a c f i g h = inl g
sure_by_cases (suc n) G s a c f i (inl g) h = inl g
sure_by_cases (suc n) G s a c f i (inr (w, b, g)) h = inr (
  (w, i w b),
  λ k o. let r = h k o in sure_wider (members r.0 121) (members c 121) Semi G s s r.0
      (without_cell c k) f (members_sub r.0 c 121 r.1) (same s) (kept_out r.0 c k r.1 r.2) r.3,
)
