-- Entries over their middles.
use Rattle.std.proofs.Common.{◌≡◌, ℕ, IfNone, IfSome, MatchOption, None, Option, ◌↔◌, ◌∷◌, [], min}
use Rattle.std.proofs.Common.{max, Bool, not, true, false, IsTrue, List, Some, refl, sym, ◌∙◌}
use Rattle.std.proofs.Common.{subst, arith}
use Rattle.std.specs.List.{slice_get}
use Rattle.std.proofs.lemmas.Bool.{both_ways, not-true}
use Rattle.std.proofs.lemmas.Option.{same_Some}
use Rattle.hex_cells.specs.Sets.{has}
use Rattle.hex_board.specs.Elements.{PlayerBoard, HasCell}
use Rattle.conn_store.specs.Entries.{IsBetween, Misses}
use Rattle.hex_board.specs.Positions.{Within, is_empty_at, stones_of}
use Rattle.conn_store.specs.Over.{AreDisjoint, CanAnd, IsFullOf, IsOneCell, IsOver}
use Rattle.conn_store.specs.Rules.{AndRule, AreAt, IsGroup}
use Rattle.conn_store.specs.Stores.{StoreData}
use Rattle.conn_store.specs.declared.entries.Entry.{Entry}
use Rattle.conn_store.specs.declared.entries.Kind.TheVariants.{Full}
use Rattle.conn_store.specs.declared.rules.EntryOver.{EntryOver}
use Rattle.conn_store.proofs.RuleEntries.{same_cell_of}

-- a cell is in both sets
abbrev pub DoMeet : ℕ → ℕ → Type 0
DoMeet a b = (k : ℕ) × (has a k ≡ true) × (has b k ≡ true)

-- the set of cells has exactly those of the element
abbrev pub AreCellsOf : PlayerBoard → ℕ → ℕ → Type 0
AreCellsOf e x cells = (k : ℕ) → IsTrue (has cells k) ↔ HasCell e x k

misses_from : (e : PlayerBoard) (x cells c : ℕ) → AreCellsOf e x cells → (DoMeet cells c → ⊥)
    → Misses e x c
misses_from e x cells c f n k h i = n (k, (f k).1 h, i)

meets_not : (e : PlayerBoard) (x cells c : ℕ) → AreCellsOf e x cells → Misses e x c
    → DoMeet cells c → ⊥
meets_not e x cells c f m (k, h, i) = m k ((f k).0 h) i

-- what the tests tell
pub apart_told : (e : PlayerBoard) (v : EntryOver) (b : Entry) (y cells : ℕ) (last : Bool)
    → b.kind ≡ Full → (y ≡ v.end → ⊥) → (DoMeet v.carrier b.carrier → ⊥)
    → (DoMeet v.cells b.carrier → ⊥) → AreCellsOf e v.end v.cells → AreCellsOf e y cells
    → (IsTrue last ↔ DoMeet cells v.carrier) → IsTrue (not last) ↔ AreDisjoint e v b y
apart_told e v b y cells last k n f g own other l = (
  λ t. record {
    kind = k;
    ends = n;
    carriers = λ j h i. f (j, h, i);
    first_end = misses_from e v.end v.cells b.carrier own g;
    second_end = misses_from e y cells v.carrier other
        (λ m. both_ways last (not-true last t) (l.1 m));
  },
  λ a. not_from last (λ t. meets_not e y cells v.carrier other a.second_end (l.0 t)),
)
  where
    not_from : (b : Bool) → (b ≡ true → ⊥) → not b ≡ true
    not_from true f = absurd (f refl)
    not_from false f = refl

-- the other end of an entry
pub same_end : (a : Entry) (v x u : ℕ) → IsBetween a v u → IsBetween a x u → v ≡ x
same_end a v x u p q = end_is v x u a.x a.y p.0 p.1 q.0 q.1
  where
    end_is : (v x u m n : ℕ) → m ≡ min v u → n ≡ max v u → m ≡ min x u → n ≡ max x u → v ≡ x
    end_is v x u m n a b c d = omega arith

same_second : (a : Entry) (u v x : ℕ) → IsBetween a u v → IsBetween a u x → v ≡ x
same_second a u v x p q = end_is v x u a.x a.y p.0 p.1 q.0 q.1
  where
    end_is : (v x u m n : ℕ) → m ≡ min u v → n ≡ max u v → m ≡ min u x → n ≡ max u x → v ≡ x
    end_is v x u m n a b c d = omega arith

-- entries that are apart make the rule
pub rule_of : (e : PlayerBoard) (v : EntryOver) (a b : Entry) (y : ℕ) → IsFullOf a v.end v.middle
    → a.carrier ≡ v.carrier → IsBetween b v.middle y → AreDisjoint e v b y
    → AndRule e a b v.end v.middle y
rule_of e v a b y f c h p = record {
  first_kind = f.kind;
  second_kind = p.kind;
  chain = record { first = f.pair; second = h; ends = λ q. p.ends (sym q) };
  apart = λ k i j. p.carriers k (subst (λ s. has s k ≡ true) c i) j;
  first_end = p.first_end;
  second_end = λ k i j. p.second_end k i (subst (λ s. has s k ≡ true) c j);
}

-- and the rule makes them apart
apart_of : (e : PlayerBoard) (v : EntryOver) (a b : Entry) (x y z : ℕ) → IsFullOf a v.end v.middle
    → a.carrier ≡ v.carrier → IsBetween b v.middle z → AndRule e a b x v.middle y
    → AreDisjoint e v b z
apart_of e v a b x y z f c h r =
    let p : x ≡ v.end = same_end a x v.end v.middle r.chain.first f.pair in
    let q : y ≡ z = same_second b v.middle y z r.chain.second h in
    record {
      kind = r.second_kind;
      ends = λ g. r.chain.ends (p ∙ (sym g ∙ sym q));
      carriers = λ k i j. r.apart k (subst (λ s. has s k ≡ true) (sym c) i) j;
      first_end = subst (λ w. Misses e w b.carrier) p r.first_end;
      second_end = subst (λ w. Misses e w v.carrier) q (subst (λ s. Misses e y s) c r.second_end);
    }

pub at_first : (entries : List Entry) (i j : ℕ) (a b : Entry)
    → AreAt entries (i ∷ j ∷ []) (a ∷ b ∷ []) → slice_get entries i ≡ Some a
at_first entries i j a b h = cc

pub at_second : (entries : List Entry) (i j : ℕ) (a b : Entry)
    → AreAt entries (i ∷ j ∷ []) (a ∷ b ∷ []) → slice_get entries j ≡ Some b
at_second entries i j a b h = cc

-- what the middle is
pub over_group : (d : StoreData) (v : EntryOver) → IsOver d v → v.cell ≡ None
    → IsGroup d.elements v.middle
over_group d v o e
    = subst (λ (c : Option ℕ). MatchOption c (IsGroup d.elements v.middle) (IsOneCell d.elements v.middle)) e o.middle

pub over_cell : (d : StoreData) (v : EntryOver) (k : ℕ) → IsOver d v → v.cell ≡ Some k
    → IsOneCell d.elements v.middle k
over_cell d v k o e
    = subst (λ (c : Option ℕ). MatchOption c (IsGroup d.elements v.middle) (IsOneCell d.elements v.middle)) e o.middle

-- the middle of an entry that is read
pub middle_read : (e : PlayerBoard) (u : ℕ) (cell : Option ℕ)
    → Within e.board.size (stones_of e.board e.player)
    → IfSome cell (λ k. (is_empty_at e.board k ≡ true) × HasCell e u k)
    → IfNone cell ((k : ℕ) → is_empty_at e.board k ≡ true → ¬ (HasCell e u k))
    → MatchOption cell (IsGroup e u) (IsOneCell e u)
middle_read e u None on s n = λ k c. n k c.0 c.1
middle_read e u (Some k) on s n = (s, λ j q. same_cell_of e u k j on s q)

-- the second entry is not of the middle
pub no_end : (d : StoreData) (v : EntryOver) (j : ℕ) (b : Entry) → slice_get d.entries j ≡ Some b
    → ((y : ℕ) → ¬ (IsBetween b v.middle y)) → CanAnd d v.number j v.middle → ⊥
no_end d v j b g n (p, q, x, y, at, r) =
    let e : q ≡ b = same_Some q b (sym (at_second d.entries v.number j p q at) ∙ g) in
    n y (subst (λ (w : Entry). IsBetween w v.middle y) e r.chain.second)

-- the entries are not apart
pub no_rule : (d : StoreData) (v : EntryOver) (j : ℕ) (b : Entry) (z : ℕ) → IsOver d v
    → slice_get d.entries j ≡ Some b → IsBetween b v.middle z → (AreDisjoint d.elements v b z → ⊥)
    → CanAnd d v.number j v.middle → ⊥
no_rule d v j b z o g h n (p, q, x, y, at, r) =
    let e : q ≡ b = same_Some q b (sym (at_second d.entries v.number j p q at) ∙ g) in
    let f : p ≡ o.entry.0
    = same_Some p o.entry.0 (sym (at_first d.entries v.number j p q at) ∙ o.entry.1) in
    let s : AndRule d.elements o.entry.0 b x v.middle y
    = subst (λ (w : Entry). AndRule d.elements o.entry.0 w x v.middle y) e
    (subst (λ (w : Entry). AndRule d.elements w q x v.middle y) f r) in
    n (apart_of d.elements v o.entry.0 b x y z o.entry.2 o.entry.3 h s)
