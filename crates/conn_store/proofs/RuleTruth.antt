-- What the four rules give is true if what it follows from is true.
use Rattle.std.proofs.Common.{◌≡◌, ℕ, ◌+◌, ◌<◌, ◌&&◌, min, max, bit_or, true, Bool, List, [], ◌∷◌}
use Rattle.std.proofs.Common.{take, Some, All, sym, subst, inl, inr, ◌⊎◌, zero, suc, arith}
use Rattle.std.specs.List.{slice_get}
use Rattle.std.proofs.lemmas.Bool.{cases_lt, both_ways, false_from_ne_true}
use Rattle.std.proofs.lemmas.List.Elements.{All-head, All-tail, All-nil, All-cons}
use Rattle.hex_cells.specs.Sets.{has, members, with_cell}
use Rattle.hex_board.specs.Elements.{PlayerBoard, HasCell}
use Rattle.hex_board.specs.Positions.{Apart, stones_of, is_empty_at}
use Rattle.hex_cells.proofs.WithCell.{with_cell-here, with_cell-keeps}
use Rattle.hex_cells.proofs.Tables.{board_cell}
use Rattle.hex_board.proofs.Placed.{empty_on, stones_on}
use Rattle.hex_board.proofs.Places.{near_out}
use Rattle.conn_store.specs.Entries.{IsBetween, IsTrueEntry, IsValid, Misses}
use Rattle.conn_store.specs.Index.{IsSmall}
use Rattle.conn_store.specs.Laws.{AreOfBoard}
use Rattle.conn_store.specs.Links.{StonesLink}
use Rattle.conn_store.specs.Rules.{AndRule, AreAt, FollowsBy, IsCell, IsGroup, OrRule, both_of}
use Rattle.conn_store.specs.Rules.{is_in_all, union_of}
use Rattle.conn_store.specs.Stores.{AreTrue, IsSound, StoreData}
use Rattle.conn_store.specs.Truth.{IsSureIn, IsSure}
use Rattle.conn_store.specs.declared.entries.Cause.{Cause}
use Rattle.conn_store.specs.declared.entries.Cause.TheVariants.{Adjacent, AndGroup, AndEmpty, Or}
use Rattle.conn_store.specs.declared.entries.Entry.{Entry}
use Rattle.conn_store.specs.declared.entries.Kind.{Kind}
use Rattle.conn_store.specs.declared.entries.Kind.TheVariants.{Full, Semi}
use Rattle.conn_store.proofs.Sureness.{Disjoint, union_left, union_right, same, sure_more}
use Rattle.conn_store.proofs.Sureness.{sure_trimmed, sure_both, sure_over, sure_by_one}
use Rattle.conn_store.proofs.Ways.{linked_kept, linked_back, near_linked, linked_group, linked_cell}

-- ---- entries of a pair without an order

pub least_first : (x y a b : ℕ) → a ≡ min x y → b ≡ max x y
    → ((a ≡ x) × (b ≡ y)) ⊎ ((a ≡ y) × (b ≡ x))
least_first x y a b h i
    = elim (cases_lt x y) [ inl l ↦ inl (omega arith, omega arith) | inr l ↦ inr (omega arith, omega arith) ]

pub turned : (e : PlayerBoard) (n : ℕ) (kind : Kind) (x y s c : ℕ)
    → IsSureIn n kind (StonesLink e x y) s c → IsSureIn n kind (StonesLink e y x) s c
turned e n kind x y s c g = sure_more n n kind (StonesLink e x y) (StonesLink e y x) s s c c
    (omega arith) (same s) (same c)
    (λ a b p q l. linked_kept e y x a b q (linked_back e x y a l)) g

-- an entry of x and y says that these are linked
pub between : (e : PlayerBoard) (n : ℕ) (kind : Kind) (a : Entry) (x y s c : ℕ) → IsBetween a x y
    → IsSureIn n kind (StonesLink e a.x a.y) s c → IsSureIn n kind (StonesLink e x y) s c
between e n kind a x y s c h g = elim (least_first x y a.x a.y h.0 h.1) [
  | inl p ↦ subst (λ v. IsSureIn n kind (StonesLink e x v) s c) p.1
      (subst (λ v. IsSureIn n kind (StonesLink e v a.y) s c) p.0 g)
  | inr p ↦ turned e n kind y x s c
      (subst (λ v. IsSureIn n kind (StonesLink e y v) s c) p.1 (subst (λ v. IsSureIn n kind (StonesLink e v a.y) s c) p.0 g))
]

-- and the other way round
pub between_back : (e : PlayerBoard) (n : ℕ) (kind : Kind) (a : Entry) (x y s c : ℕ)
    → IsBetween a x y → IsSureIn n kind (StonesLink e x y) s c
    → IsSureIn n kind (StonesLink e a.x a.y) s c
between_back e n kind a x y s c h g = elim (least_first x y a.x a.y h.0 h.1) [
  | inl p ↦ subst (λ v. IsSureIn n kind (StonesLink e a.x v) s c) (sym p.1)
      (subst (λ v. IsSureIn n kind (StonesLink e v y) s c) (sym p.0) g)
  | inr p ↦ subst (λ v. IsSureIn n kind (StonesLink e a.x v) s c) (sym p.1)
      (subst (λ v. IsSureIn n kind (StonesLink e v x) s c) (sym p.0) (turned e n kind x y s c g))
]

-- ---- carriers

pub cell_small : (e : PlayerBoard) (k : ℕ) → IsSmall e → is_empty_at e.board k ≡ true → k < 121
cell_small e k m h = board_cell e.board.size k m.size (empty_on e.board k h)

carrier_small : (e : PlayerBoard) (a : Entry) → IsSmall e → IsValid e a → (k : ℕ)
    → has a.carrier k ≡ true → k < 121
carrier_small e a m v k h = cell_small e k m (v.empty k h)

-- what is proved of an entry with some number of stones
concludes : (e : PlayerBoard) (a : Entry) (n : ℕ) (kind : Kind) → IsSmall e → IsValid e a
    → a.kind ≡ kind
    → IsSureIn n kind (StonesLink e a.x a.y) (stones_of e.board e.player) a.carrier
    → IsTrueEntry e a
concludes e a n kind m v q g
    = subst (λ w. IsSure w (StonesLink e a.x a.y) (stones_of e.board e.player) a.carrier) (sym q)
    (sure_trimmed n (members a.carrier 121) kind (StonesLink e a.x a.y) (stones_of e.board e.player) a.carrier (carrier_small e a m v) (omega arith) g)

-- what an entry says
says : (e : PlayerBoard) (a : Entry) (kind : Kind) (x y : ℕ) → IsTrueEntry e a → a.kind ≡ kind
    → IsBetween a x y
    → IsSureIn (members a.carrier 121) kind (StonesLink e x y)
    (stones_of e.board e.player) a.carrier
says e a kind x y t q h
    = between e (members a.carrier 121) kind a x y (stones_of e.board e.player) a.carrier h
    (subst (λ w. IsSure w (StonesLink e a.x a.y) (stones_of e.board e.player) a.carrier) q t)

disjoint : (a b : ℕ) → Apart a b → Disjoint a b
disjoint a b d k h = false_from_ne_true (has b k) (d k h)

-- no cell of u is in the carrier of an entry of x and u
pub misses_middle : (e : PlayerBoard) (a : Entry) (x u : ℕ) → IsValid e a → IsBetween a x u
    → Misses e u a.carrier
misses_middle e a x u v h = elim (least_first x u a.x a.y h.0 h.1) [
  | inl p ↦ subst (λ w. Misses e w a.carrier) p.1 v.second
  | inr p ↦ subst (λ w. Misses e w a.carrier) p.0 v.first
]

-- ---- the rules

group_true : (e : PlayerBoard) (a b entry : Entry) (x u y : ℕ) → IsSmall e → IsValid e entry
    → IsTrueEntry e a → IsTrueEntry e b
    → AndRule e a b x u y → IsGroup e u → IsBetween entry x y → entry.kind ≡ Full
    → entry.carrier ≡ both_of a b → IsTrueEntry e entry
group_true e a b entry x u y m v ta tb r g h q c =
    let s = stones_of e.board e.player in
    let n = members a.carrier 121 in
    let p = members b.carrier 121 in
    concludes e entry (n + p) Full m v q
    (subst (λ w. IsSureIn (n + p) Full (StonesLink e entry.x entry.y) s w) (sym c)
    (between_back e (n + p) Full entry x y s (both_of a b) h
    (sure_both (n + p) n p Full (StonesLink e x u) (StonesLink e u y) (StonesLink e x y) s a.carrier b.carrier (both_of a b) (omega arith)
    (linked_kept e x u) (linked_kept e u y) (linked_kept e x y)
    (λ t i j k. linked_group e x u y t m.stones i (λ w f z. g w (f, z)) j k)
    (disjoint a.carrier b.carrier r.apart) (union_left a.carrier b.carrier)
    (union_right a.carrier b.carrier)
    (says e a Full x u ta r.first_kind r.chain.first)
    (says e b Full u y tb r.second_kind r.chain.second))))

cell_true : (e : PlayerBoard) (a b entry : Entry) (x u y k : ℕ) → IsSmall e → IsValid e entry
    → IsValid e a → IsValid e b → IsTrueEntry e a → IsTrueEntry e b
    → AndRule e a b x u y → IsCell e u k → IsBetween entry x y → entry.kind ≡ Semi
    → entry.carrier ≡ with_cell (both_of a b) k → IsTrueEntry e entry
cell_true e a b entry x u y k m v va vb ta tb r g h q c =
    let s = stones_of e.board e.player in
    let n = members a.carrier 121 in
    let p = members b.carrier 121 in
    let w = with_cell (both_of a b) k in
    concludes e entry (suc (n + p)) Semi m v q
    (subst (λ z. IsSureIn (suc (n + p)) Semi (StonesLink e entry.x entry.y) s z) (sym c)
    (between_back e (suc (n + p)) Semi entry x y s w h
    (sure_over (n + p) n p k (StonesLink e x u) (StonesLink e u y) (StonesLink e x y) s a.carrier b.carrier w (omega arith)
    (linked_kept e x u) (linked_kept e u y) (linked_kept e x y)
    (λ t i j l. linked_cell e x u y k t m.stones g.0 g.1 (i k (with_cell-here s k)) j l)
    (disjoint a.carrier b.carrier r.apart)
    (λ z i. with_cell-keeps (both_of a b) k z (union_left a.carrier b.carrier z i))
    (λ z i. with_cell-keeps (both_of a b) k z (union_right a.carrier b.carrier z i))
    (false_from_ne_true (has a.carrier k) (misses_middle e a x u va r.chain.first k g.1))
    (false_from_ne_true (has b.carrier k) (other_middle e b u y k vb r.chain.second g.1))
    (with_cell-here (both_of a b) k)
    (says e a Full x u ta r.first_kind r.chain.first)
    (says e b Full u y tb r.second_kind r.chain.second))))
  where
    other_middle : (e : PlayerBoard) (b : Entry) (u y k : ℕ) → IsValid e b → IsBetween b u y
        → HasCell e u k → has b.carrier k ≡ true → ⊥
    other_middle e b u y k v h z = elim (least_first u y b.x b.y h.0 h.1) [
      | inl p ↦ subst (λ w. Misses e w b.carrier) p.0 v.first k z
      | inr p ↦ subst (λ w. Misses e w b.carrier) p.1 v.second k z
    ]

three : (a b c : Bool) → a ≡ true → b ≡ true → c ≡ true → (a && (b && (c && true))) ≡ true
three a b c h i j = grind arith

two : (a b : Bool) → a ≡ true → b ≡ true → (a && (b && true)) ≡ true
two a b h i = grind arith

pub second_of : (P : Entry → Type 0) (a b : Entry) (ways : List Entry) → All P (a ∷ b ∷ ways) → P b
second_of P a b ways h = All-head P b ways (All-tail P a (b ∷ ways) h)

pub third_of : (P : Entry → Type 0) (a b d : Entry) (ways : List Entry)
    → All P (a ∷ b ∷ d ∷ ways) → P d
third_of P a b d ways h = second_of P b d ways (All-tail P a (b ∷ d ∷ ways) h)

or_true : (e : PlayerBoard) (entry : Entry) (ways : List Entry) → IsSmall e → IsValid e entry
    → All (λ a. IsTrueEntry e a) ways
    → OrRule ways entry.x entry.y → entry.kind ≡ Full → entry.carrier ≡ union_of ways
    → IsTrueEntry e entry
or_true e entry [] m v t r q c
    = elim r.number [ inl h ↦ absurd (omega arith) | inr h ↦ absurd (omega arith) ]
or_true e entry (a ∷ []) m v t r q c
    = elim r.number [ inl h ↦ absurd (omega arith) | inr h ↦ absurd (omega arith) ]
or_true e entry (a ∷ b ∷ []) m v t r q c =
    let s = stones_of e.board e.player in
    let n = members a.carrier 121 in
    let p = members b.carrier 121 in
    let u = bit_or a.carrier b.carrier in
    let y = says e b Semi entry.x entry.y (second_of (λ w. IsTrueEntry e w) a b [] t)
    (second_of (λ (w : Entry). w.kind ≡ Semi) a b [] r.kinds)
    (second_of (λ (w : Entry). IsBetween w entry.x entry.y) a b [] r.pairs) in
    concludes e entry (suc (max n p)) Full m v q
    (subst (λ w. IsSureIn (suc (max n p)) Full (StonesLink e entry.x entry.y) s w) (sym c)
    (sure_by_one (max n p) n p p (StonesLink e entry.x entry.y) s a.carrier b.carrier b.carrier u (omega arith) (omega arith) (omega arith)
    (linked_kept e entry.x entry.y)
    (λ k f g h. both_ways (is_in_all (a ∷ b ∷ []) k) (r.free k) (two (has a.carrier k) (has b.carrier k) f g))
    (union_left a.carrier b.carrier) (union_right a.carrier b.carrier)
    (union_right a.carrier b.carrier)
    (says e a Semi entry.x entry.y (All-head (λ w. IsTrueEntry e w) a (b ∷ []) t) (All-head (λ (w : Entry). w.kind ≡ Semi) a (b
    ∷ []) r.kinds) (All-head (λ (w : Entry). IsBetween w entry.x entry.y) a (b ∷ []) r.pairs)) y y))
or_true e entry (a ∷ b ∷ d ∷ []) m v t r q c =
    let s = stones_of e.board e.player in
    let n = members a.carrier 121 in
    let p = members b.carrier 121 in
    let o = members d.carrier 121 in
    let w = bit_or b.carrier d.carrier in
    let u = bit_or a.carrier w in
    concludes e entry (suc (max n (max p o))) Full m v q
    (subst (λ z. IsSureIn (suc (max n (max p o))) Full (StonesLink e entry.x entry.y) s z) (sym c)
    (sure_by_one (max n (max p o)) n p o (StonesLink e entry.x entry.y) s a.carrier b.carrier d.carrier u (omega arith) (omega arith) (omega arith)
    (linked_kept e entry.x entry.y)
    (λ k f g h. both_ways (is_in_all (a ∷ b ∷ d ∷ []) k) (r.free k) (three (has a.carrier k) (has b.carrier k) (has d.carrier k) f g h))
    (union_left a.carrier w) (λ k f. union_right a.carrier w k (union_left b.carrier d.carrier k f))
    (λ k f. union_right a.carrier w k (union_right b.carrier d.carrier k f))
    (says e a Semi entry.x entry.y (All-head (λ w. IsTrueEntry e w) a (b ∷ d ∷ []) t) (All-head (λ (w : Entry). w.kind ≡ Semi) a (b ∷ d
    ∷ []) r.kinds) (All-head (λ (w : Entry). IsBetween w entry.x entry.y) a (b ∷ d ∷ []) r.pairs))
    (says e b Semi entry.x entry.y (second_of (λ w. IsTrueEntry e w) a b (d ∷ []) t) (second_of (λ (w : Entry). w.kind ≡ Semi) a b (d
    ∷ []) r.kinds) (second_of (λ (w : Entry). IsBetween w entry.x entry.y) a b (d ∷ []) r.pairs))
    (says e d Semi entry.x entry.y (third_of (λ w. IsTrueEntry e w) a b d [] t) (third_of (λ (w : Entry). w.kind
    ≡ Semi) a b d [] r.kinds) (third_of (λ (w : Entry). IsBetween w entry.x entry.y) a b d [] r.pairs))))
or_true e entry (a ∷ b ∷ d ∷ f ∷ ways) m v t r q c
    = elim r.number [ inl h ↦ absurd (omega arith) | inr h ↦ absurd (omega arith) ]

-- ---- from a list of entries

-- what holds of each entry of the list holds of those with these numbers
at_all : (P : Entry → Type 0) (entries : List Entry) (numbers : List ℕ) (ways : List Entry)
    → ((i : ℕ) (a : Entry) → slice_get entries i ≡ Some a → P a)
    → AreAt entries numbers ways → All P ways
at_all P entries [] [] f h = All-nil P
at_all P entries [] (a ∷ ways) f h = absurd (cc)
at_all P entries (i ∷ numbers) [] f h = absurd (cc)
at_all P entries (i ∷ numbers) (a ∷ ways) f h =
    let g : slice_get entries i ≡ Some a = cc in
    let r : AreAt entries numbers ways = cc in
    All-cons P a ways (f i a g) (at_all P entries numbers ways f r)

-- an entry that follows from valid and true ones is true
pub follows_true : (e : PlayerBoard) (entries : List Entry) (entry : Entry)
    (cause : Cause) → IsSmall e
    → ((i : ℕ) (a : Entry) → slice_get entries i ≡ Some a → IsValid e a)
    → ((i : ℕ) (a : Entry) → slice_get entries i ≡ Some a → IsTrueEntry e a)
    → IsValid e entry → FollowsBy e entries entry cause → IsTrueEntry e entry
follows_true e entries entry Adjacent m vs ts v f
    = concludes e entry 0 Full m v f.1
    (near_linked e entry.x entry.y (stones_of e.board e.player) (near_out e entry.x entry.y f.0))
follows_true e entries entry (AndGroup i j) m vs ts v (a, b, x, u, y, at, r, g, h, q, c) =
    let ta = at_all (λ w. IsTrueEntry e w) entries (i ∷ j ∷ []) (a ∷ b ∷ []) ts at in
    group_true e a b entry x u y m v (All-head (λ w. IsTrueEntry e w) a (b ∷ []) ta)
    (second_of (λ w. IsTrueEntry e w) a b [] ta) r g h q c
follows_true e entries entry (AndEmpty i j) m vs ts v (a, b, x, u, y, k, at, r, g, h, q, c) =
    let ta = at_all (λ w. IsTrueEntry e w) entries (i ∷ j ∷ []) (a ∷ b ∷ []) ts at in
    let va = at_all (λ w. IsValid e w) entries (i ∷ j ∷ []) (a ∷ b ∷ []) vs at in
    cell_true e a b entry x u y k m v (All-head (λ w. IsValid e w) a (b ∷ []) va)
    (second_of (λ w. IsValid e w) a b [] va)
    (All-head (λ w. IsTrueEntry e w) a (b ∷ []) ta)
    (second_of (λ w. IsTrueEntry e w) a b [] ta) r g h q c
follows_true e entries entry (Or numbers count) m vs ts v (ways, at, r, q, c) =
    or_true e entry ways m v
    (at_all (λ w. IsTrueEntry e w) entries (take count numbers) ways ts at) r q c

-- ---- sound stores

pub taken_back : {X : Type 0} (xs : List X) (n i : ℕ) (x : X) → slice_get (take n xs) i ≡ Some x
    → slice_get xs i ≡ Some x
taken_back xs zero i x h = absurd (cc)
taken_back [] (suc n) i x h = absurd (cc)
taken_back (y ∷ xs) (suc n) zero x h = h
taken_back (y ∷ xs) (suc n) (suc i) x h = taken_back xs n i x h

pub taken_below : {X : Type 0} (xs : List X) (n i : ℕ) (x : X)
    → slice_get (take n xs) i ≡ Some x → i < n
taken_below xs zero i x h = absurd (cc)
taken_below [] (suc n) i x h = absurd (cc)
taken_below (y ∷ xs) (suc n) zero x h = omega arith
taken_below (y ∷ xs) (suc n) (suc i) x h = let l : i < n = taken_below xs n i x h in omega arith

-- entries that are valid and follow from earlier ones are true, one after the other
true_to : (d : StoreData) → IsSmall d.elements → IsSound d → (n i : ℕ) (a : Entry) → i < n
    → slice_get d.entries i ≡ Some a → IsTrueEntry d.elements a
true_to d m s zero i a l h = absurd (omega arith)
true_to d m s (suc n) i a l h = follows_true d.elements (take i d.entries) a a.cause m
    (λ j b g. s.valid j b (taken_back d.entries i j b g))
    (λ j b g. let k : j < i = taken_below d.entries i j b g in true_to d m s n j b (omega arith) (taken_back d.entries i j b g))
    (s.valid i a h) (s.follows i a h)

pub sound_true : (d : StoreData) → IsSmall d.elements → IsSound d → AreTrue d
sound_true d m s i a h = true_to d m s (suc i) i a (omega arith) h

pub board_small : (e : PlayerBoard) → AreOfBoard e → IsSmall e
board_small e on = record { size = on.most; stones = stones_on e.board e.player on }
