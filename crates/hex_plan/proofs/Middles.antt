-- Semi entries, which follow over an empty cell, and full ones, whose carriers have a cell.
use Rattle.std.proofs.Common.{◌≡◌, ℕ, List, true, false, Some, get_or, take, zero, suc, refl, sym}
use Rattle.std.proofs.Common.{◌∙◌, ap, subst, inl, inr}
use Rattle.std.specs.List.{slice_get}
use Rattle.std.proofs.lemmas.Bool.{both_ways}
use Rattle.std.proofs.lemmas.Option.{get_or_from_slice_get}
use Rattle.hex_cells.specs.Sets.{has, members}
use Rattle.hex_board.specs.Elements.{PlayerBoard, are_joined, edge_element}
use Rattle.hex_board.specs.Positions.{Within, stones_of}
use Rattle.hex_board.proofs.Parts.{high_apart}
use Rattle.hex_board.proofs.Search.{joined_found}
use Rattle.conn_store.specs.Entries.{IsBetween}
use Rattle.conn_store.specs.Links.{StonesLink}
use Rattle.conn_store.specs.Rules.{AndRule, FollowsBy, IsCell}
use Rattle.conn_store.specs.Stores.{AreTrue, IsSound, StoreData}
use Rattle.conn_store.specs.Truth.{IsSure, IsSureIn}
use Rattle.conn_store.specs.declared.entries.Cause.{Cause}
use Rattle.conn_store.specs.declared.entries.Cause.TheVariants.{Adjacent, AndGroup, AndEmpty, Or}
use Rattle.conn_store.specs.declared.entries.Entry.{Entry}
use Rattle.conn_store.specs.declared.entries.Kind.TheVariants.{Full, Semi}
use Rattle.conn_store.proofs.Edges.{linked_joins}
use Rattle.conn_store.proofs.RuleEntries.{at_two}
use Rattle.conn_store.proofs.Sureness.{same}
use Rattle.win_cert.specs.Cuts.{IsEdgeEntryAt}
use Rattle.hex_plan.specs.Resting.{IsMiddle}
use Rattle.hsearch.proofs.Steps.{at_second, at_first, kinds_apart}
use Rattle.conn_store.proofs.RuleTruth.{taken_back}

-- ---- semi entries

-- the entry follows from two others over an empty cell
pub record IsOverCell (d : StoreData) (a : Entry) (i j : ℕ) : Type 0 where
  pub first : Entry
  pub second : Entry
  pub first_at : slice_get d.entries i ≡ Some first
  pub second_at : slice_get d.entries j ≡ Some second
  pub x : ℕ
  pub u : ℕ
  pub y : ℕ
  pub rule : AndRule d.elements first second x u y
  pub place : ℕ
  pub cell : IsCell d.elements u place
  pub pair : IsBetween a x y

-- a semi entry has this cause
pub semi_cause : (e : PlayerBoard) (entries : List Entry) (a : Entry) (cause : Cause)
    → FollowsBy e entries a cause → a.kind ≡ Semi → (i : ℕ) × (j : ℕ) × (cause ≡ AndEmpty i j)
semi_cause e entries a Adjacent f s = absurd (kinds_apart a.kind f.1 s)
semi_cause e entries a (AndGroup i j) (v, w, x, u, y, at, r, g, h, q, c) s
    = absurd (kinds_apart a.kind q s)
semi_cause e entries a (AndEmpty i j) f s = (i, j, refl)
semi_cause e entries a (Or numbers count) (ways, at, r, q, c) s = absurd (kinds_apart a.kind q s)

over_by : (d : StoreData) (n : ℕ) (a : Entry) (i j : ℕ)
    → FollowsBy d.elements (take n d.entries) a (AndEmpty i j) → IsOverCell d a i j
over_by d n a i j (v, w, x, u, y, k, at, r, g, h, q, c) = record {
  first = v;
  second = w;
  first_at = taken_back d.entries n i v (at_first (take n d.entries) i j v w at);
  second_at = taken_back d.entries n j w (at_second (take n d.entries) i j v w at);
  x = x;
  u = u;
  y = y;
  rule = r;
  place = k;
  cell = g;
  pair = h;
}

pub over_cell : (d : StoreData) (n : ℕ) (a : Entry) (i j : ℕ) → IsSound d
    → slice_get d.entries n ≡ Some a → a.cause ≡ AndEmpty i j → IsOverCell d a i j
over_cell d n a i j s at e
    = over_by d n a i j
    (subst (λ (v : Cause). FollowsBy d.elements (take n d.entries) a v) e (s.follows n a at))

pub never_else : (d : StoreData) (entries : List Entry) (n : ℕ) (a r : Entry) → IsSound d
    → entries ≡ d.entries → slice_get d.entries n ≡ Some a → a.kind ≡ Semi
    → ((i j : ℕ) → (get_or entries n r).cause ≡ AndEmpty i j → ⊥) → ⊥
never_else d entries n a r s q at k h =
    let w = semi_cause d.elements (take n d.entries) a a.cause (s.follows n a at) k in
    h w.0 w.1 (ap (λ (v : List Entry). (get_or v n r).cause) q ∙ (ap (λ (v : Entry). v.cause) (get_or_from_slice_get d.entries n a r at) ∙ w.2))

-- the cell that its middle is
pub is_middle : (d : StoreData) (a : Entry) (i j m k : ℕ) (o : IsOverCell d a i j)
    → a.cause ≡ AndEmpty i j → m ≡ o.u → IsCell d.elements m k → IsMiddle d a k
is_middle d a i j m k o e q g = record {
  numbers = (i, j);
  cause = e;
  parts = (o.first, o.second);
  at = at_two d.entries i j o.first o.second o.first_at o.second_at;
  ends = (o.x, o.y);
  middle = o.u;
  chain = o.rule.chain;
  pair = o.pair;
  cell = subst (λ v. IsCell d.elements v k) q g;
}

-- ---- full entries

empty_full : (n : ℕ) (G : ℕ → Type 0) (s c : ℕ) → ((k : ℕ) → has c k ≡ false)
    → IsSureIn n Full G s c → G s
empty_full zero G s c f g = g
empty_full (suc n) G s c f (inl g) = g
empty_full (suc n) G s c f (inr (w, g)) = absurd (both_ways (has c w.0) (f w.0) w.1)

edges_of : (e : PlayerBoard) (a : Entry) (s : ℕ) → are_joined e ≡ false
    → IsBetween a (edge_element e false) (edge_element e true) → StonesLink e a.x a.y s
    → StonesLink e (edge_element e false) (edge_element e true) s
edges_of e a s j h l =
    let p : (a.x ≡ 0) × (a.y ≡ 1) = subst (λ v. IsBetween a 0 v) (high_apart (are_joined e) j) h in
    subst (λ v. StonesLink e 0 v s) (p.1 ∙ sym (high_apart (are_joined e) j))
    (subst (λ v. StonesLink e v a.y s) p.0 l)

-- the carrier of a full entry between the edges of a player who is not joined has a cell
pub full_has_cell : (d : StoreData) (n : ℕ) (a : Entry) → AreTrue d → IsEdgeEntryAt d n a
    → a.kind ≡ Full → Within d.elements.board.size (stones_of d.elements.board d.elements.player)
    → are_joined d.elements ≡ false → ((k : ℕ) → has a.carrier k ≡ false) → ⊥
full_has_cell d n a ts at k on j f =
    let stones : ℕ = stones_of d.elements.board d.elements.player in
    let t : IsSure Full (StonesLink d.elements a.x a.y) stones a.carrier
    = subst (λ v. IsSure v (StonesLink d.elements a.x a.y) stones a.carrier) k (ts n a at.0) in
    let l : StonesLink d.elements a.x a.y stones
    = empty_full (members a.carrier 121) (StonesLink d.elements a.x a.y) stones a.carrier f t in
    both_ways (are_joined d.elements) j
    (joined_found d.elements.board.size d.elements.player stones (linked_joins d.elements stones on (same stones) (edges_of d.elements a stones j at.1 l)))
