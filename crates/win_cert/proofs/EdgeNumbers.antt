-- The numbers of the entries between the player's two edges.
use Rattle.std.proofs.Common.{◌≡◌, ℕ, ◌<◌, true, false, Some, get_or, length, sym, ◌∙◌, ap, subst}
use Rattle.std.proofs.Common.{arith}
use Rattle.std.specs.List.{slice_get}
use Rattle.hex_board.specs.Elements.{PlayerBoard, are_joined, edge_element}
use Rattle.hex_board.proofs.Parts.{high_apart}
use Rattle.conn_store.specs.Entries.{IsBetween}
use Rattle.conn_store.specs.Stores.{StoreData, held_of, numbers_of}
use Rattle.conn_store.specs.declared.entries.Entry.{Entry}
use Rattle.conn_store.specs.declared.entries.Held.{Held}
use Rattle.conn_store.specs.declared.entries.Kind.{Kind}
use Rattle.conn_store.proofs.Numbers.{numbers_in}
use Rattle.conn_store.proofs.Tables.{held_count, number_at, of_means, at_start}
use Rattle.hsearch.proofs.Steps.{held_has}
use Rattle.win_cert.specs.Cuts.{AreEdgeNumbers, IsEdgeEntryAt}

-- where the player is not joined his edges are in elements 0 and 1
edge_pair : (e : PlayerBoard) (a : Entry) → are_joined e ≡ false
    → IsBetween a (edge_element e false) (edge_element e true) → (a.x ≡ 0) × (a.y ≡ 1)
edge_pair e a j h = subst (λ v. IsBetween a 0 v) (high_apart (are_joined e) j) h

pair_edge : (e : PlayerBoard) (a : Entry) → are_joined e ≡ false → a.x ≡ 0 → a.y ≡ 1
    → IsBetween a (edge_element e false) (edge_element e true)
pair_edge e a j p q = subst (λ v. IsBetween a 0 v) (sym (high_apart (are_joined e) j)) (p, q)

one_number : (d : StoreData) (kind : Kind) (h : Held) (j : ℕ) → are_joined d.elements ≡ false
    → h ≡ held_of (numbers_of d kind 0 1) → j < h.count
    → (a : Entry) × IsEdgeEntryAt d (get_or h.at j 0) a × (a.kind ≡ kind)
one_number d kind h j u e l =
    let c : h.count ≡ length (numbers_of d kind 0 1) = held_count h (numbers_of d kind 0 1) e in
    let k : j < length (numbers_of d kind 0 1) = omega arith in
    let w = numbers_in 0 kind 0 1 d.entries j k in
    let a : Entry = w.1 in
    let at : get_or h.at j 0 ≡ w.0 = ap (λ (v : Held). get_or v.at j 0) e
    ∙ (number_at (numbers_of d kind 0 1) j k ∙ at_start _ w.0 w.2) in
    let m = of_means kind 0 1 a w.4 in
    (a, (subst (λ v. slice_get d.entries v ≡ Some a) (sym at) w.3, pair_edge d.elements a u m.1 m.2), m.0)

numbers_are_at : (d : StoreData) (kind : Kind) (h : Held) → are_joined d.elements ≡ false
    → h ≡ held_of (numbers_of d kind 0 1) → AreEdgeNumbers d kind h
numbers_are_at d kind h u e = record {
  each = λ j l. one_number d kind h j u e l;
  all = λ n a w k. let p = edge_pair d.elements a u w.1 in
      held_has d kind 0 1 n h a e w.0 k p.0 p.1;
}

pub numbers_are : (d : StoreData) (e : PlayerBoard) (kind : Kind) (x y : ℕ) (h : Held)
    → are_joined d.elements ≡ false → e ≡ d.elements → x ≡ edge_element e false
    → y ≡ edge_element e true
    → h ≡ held_of (numbers_of d kind x y) → AreEdgeNumbers d kind h
numbers_are d e kind x y h u s p q g =
    let one : y ≡ 1 = q
    ∙ (ap (λ (v : PlayerBoard). edge_element v true) s ∙ high_apart (are_joined d.elements) u) in
    numbers_are_at d kind h u
    (subst (λ v. h ≡ held_of (numbers_of d kind 0 v)) one (subst (λ v. h ≡ held_of (numbers_of d kind v y)) p g))
