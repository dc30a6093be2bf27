-- The entries that the rules give.
use Rattle.std.proofs.Common.{◌≡◌, ℕ, ◌<◌, ◌&&◌, true, false, Bool, bit_or, List, [], ◌∷◌, length}
use Rattle.std.proofs.Common.{get_or, Some, refl, sym, ◌∙◌, ap, subst, inl, inr, arith}
use Rattle.std.specs.List.{slice_get}
use Rattle.std.proofs.lemmas.Bool.{false_from_ne_true, and_parts}
use Rattle.std.proofs.lemmas.List.Elements.{All-cons, All-head, All-nil}
use Rattle.std.proofs.lemmas.Option.{same_Some, slice_get_read}
use Rattle.hex_cells.specs.Sets.{has, with_cell}
use Rattle.hex_board.specs.Elements.{PlayerBoard}
use Rattle.hex_board.specs.Positions.{AllEmpty, Within, stones_of}
use Rattle.hex_board.proofs.Places.{empty_alone}
use Rattle.conn_store.specs.Entries.{IsBetween, IsValid, Misses}
use Rattle.conn_store.specs.Over.{IsOneCell}
use Rattle.conn_store.specs.Rules.{AndRule, AreAt, AreWays, FollowsBy, IsCell, IsAndOf, IsChain}
use Rattle.conn_store.specs.Rules.{IsEntry, IsGroup, OrRule, both_of}
use Rattle.conn_store.specs.Stores.{CanOr, GivesAnd, MayBeAdded, IsSound, StoreData}
use Rattle.conn_store.specs.declared.entries.Cause.{Cause}
use Rattle.conn_store.specs.declared.entries.Cause.TheVariants.{AndGroup, AndEmpty, Or}
use Rattle.conn_store.specs.declared.entries.Entry.{Entry}
use Rattle.conn_store.specs.declared.entries.Kind.{Kind}
use Rattle.conn_store.specs.declared.entries.Kind.TheVariants.{Full, Semi}
use Rattle.conn_store.proofs.Chains.{one_chain, cell_valid, empty_both, group_valid, misses_both}
use Rattle.conn_store.proofs.Chains.{valid_from}
use Rattle.conn_store.proofs.RuleTruth.{second_of, third_of}

-- what is read of the entries
pub stands : (d : StoreData) (xs : List Entry) (i : ℕ) (a : Entry) → xs ≡ d.entries
    → i < length d.entries → a ≡ get_or xs i a → slice_get d.entries i ≡ Some a
stands d xs i a e l f = slice_get_read d.entries (length d.entries) i a refl l
    (f ∙ ap (λ (v : List Entry). get_or v i a) e)

pub entry_with : (entry : Entry) (kind : Kind) (x y c d : ℕ) (cause : Cause) → c ≡ d
    → IsEntry entry kind x y c cause → IsEntry entry kind x y d cause
entry_with entry kind x y c d cause q n = subst (λ v. IsEntry entry kind x y v cause) q n

-- ---- AND

pub at_two : (entries : List Entry) (i j : ℕ) (a b : Entry) → slice_get entries i ≡ Some a
    → slice_get entries j ≡ Some b → AreAt entries (i ∷ j ∷ []) (a ∷ b ∷ [])
at_two entries i j a b h g = cc

two_at : (entries : List Entry) (i j : ℕ) (a b : Entry) → AreAt entries (i ∷ j ∷ []) (a ∷ b ∷ [])
    → (slice_get entries i ≡ Some a) × (slice_get entries j ≡ Some b)
two_at entries i j a b h = (cc, cc)

pub group_next : (d : StoreData) (i j : ℕ) (a b entry : Entry) (x u y : ℕ) → IsSound d
    → slice_get d.entries i ≡ Some a → slice_get d.entries j ≡ Some b
    → AndRule d.elements a b x u y → IsGroup d.elements u
    → IsEntry entry Full x y (both_of a b) (AndGroup i j) → MayBeAdded d entry
group_next d i j a b entry x u y s h g r f n = (
  group_valid d.elements a b entry x u y (s.valid i a h) (s.valid j b g) r n.pair n.carrier_is,
  subst (λ v. FollowsBy d.elements d.entries entry v) (sym n.cause_is)
      (a, b, x, u, y, at_two d.entries i j a b h g, r, f, n.pair, n.kind_is, n.carrier_is),
)

pub cell_next : (d : StoreData) (i j : ℕ) (a b entry : Entry) (x u y k : ℕ) → IsSound d
    → slice_get d.entries i ≡ Some a → slice_get d.entries j ≡ Some b
    → AndRule d.elements a b x u y → IsCell d.elements u k
    → IsEntry entry Semi x y (with_cell (both_of a b) k) (AndEmpty i j) → MayBeAdded d entry
cell_next d i j a b entry x u y k s h g r f n = (
  cell_valid d.elements a b entry x u y k (s.valid i a h) (s.valid j b g) r f n.pair n.carrier_is,
  subst (λ v. FollowsBy d.elements d.entries entry v) (sym n.cause_is)
      (a, b, x, u, y, k, at_two d.entries i j a b h g, r, f, n.pair, n.kind_is, n.carrier_is),
)

-- of two entries the rules of AND give one entry alone
pub same_cell_of : (e : PlayerBoard) (u k j : ℕ) → Within e.board.size (stones_of e.board e.player)
    → IsCell e u k → IsCell e u j → k ≡ j
same_cell_of e u k j on f g = empty_alone e u k j on f.0 f.1 g.1

group_of : (e : PlayerBoard) (a b entry : Entry) (x u y : ℕ) (cause : Cause) → IsGroup e u
    → IsEntry entry Full x y (both_of a b) cause → IsAndOf e a b x u y entry
group_of e a b entry x u y cause f n
    = record { pair = n.pair; group = λ q. (n.kind_is, n.carrier_is); cell = λ k q. absurd (f k q) }

cell_of_and : (e : PlayerBoard) (a b entry : Entry) (x u y k : ℕ) (cause : Cause) → IsOneCell e u k
    → IsEntry entry Semi x y (with_cell (both_of a b) k) cause → IsAndOf e a b x u y entry
cell_of_and e a b entry x u y k cause f n = record {
  pair = n.pair;
  group = λ q. absurd (q k f.0);
  cell = λ j q. (n.kind_is, n.carrier_is ∙ ap (λ v. with_cell (both_of a b) v) (f.1 j q));
}

gives_one : (d : StoreData) (i j : ℕ) (a b entry : Entry) (x u y : ℕ) → IsSound d
    → slice_get d.entries i ≡ Some a → slice_get d.entries j ≡ Some b → AndRule d.elements a b x u y
    → IsAndOf d.elements a b x u y entry → GivesAnd d i j entry
gives_one d i j a b entry x u y s h g r n p q v w z at o =
    let t = two_at d.entries i j p q at in
    let e : a ≡ p = same_Some a p (sym h ∙ t.0) in
    let f : b ≡ q = same_Some b q (sym g ∙ t.1) in
    let m : IsAndOf d.elements p q x u y entry = subst (λ k. IsAndOf d.elements p k x u y entry) f
    (subst (λ k. IsAndOf d.elements k b x u y entry) e n) in
    let c : IsChain p q x u y
    = subst (λ k. IsChain p k x u y) f (subst (λ k. IsChain k b x u y) e r.chain) in
    let l = one_chain p q x u y v w z (s.valid i p t.0).order (s.valid j q t.1).order c o.chain in
    subst (λ k. IsAndOf d.elements p q v w k entry) l.2
    (subst (λ k. IsAndOf d.elements p q v k y entry) l.1 (subst (λ k. IsAndOf d.elements p q k u y entry) l.0 m))

pub group_gives : (d : StoreData) (i j : ℕ) (a b entry : Entry) (x u y : ℕ) (cause : Cause)
    → IsSound d → slice_get d.entries i ≡ Some a → slice_get d.entries j ≡ Some b
    → AndRule d.elements a b x u y → IsGroup d.elements u
    → IsEntry entry Full x y (both_of a b) cause → GivesAnd d i j entry
group_gives d i j a b entry x u y cause s h g r f n
    = gives_one d i j a b entry x u y s h g r (group_of d.elements a b entry x u y cause f n)

pub cell_gives : (d : StoreData) (i j : ℕ) (a b entry : Entry) (x u y k : ℕ) (cause : Cause)
    → IsSound d → slice_get d.entries i ≡ Some a → slice_get d.entries j ≡ Some b
    → AndRule d.elements a b x u y → IsOneCell d.elements u k
    → IsEntry entry Semi x y (with_cell (both_of a b) k) cause → GivesAnd d i j entry
cell_gives d i j a b entry x u y k cause s h g r f n
    = gives_one d i j a b entry x u y s h g r (cell_of_and d.elements a b entry x u y k cause f n)

-- ---- OR

pub both_full : (a b : Bool) → (a ≡ true → b ≡ true → ⊥) → (a && (b && true)) ≡ false
both_full a b f
    = false_from_ne_true (a && (b && true))
    (λ h. let t = and_parts a (b && true) h in f t.0 (and_parts b true t.1).0)

pub all_full : (a b c : Bool) → (a ≡ true → b ≡ true → c ≡ true → ⊥)
    → (a && (b && (c && true))) ≡ false
all_full a b c f = false_from_ne_true (a && (b && (c && true))) (λ h.
    let t = and_parts a (b && (c && true)) h in
    let u = and_parts b (c && true) t.1 in f t.0 u.0 (and_parts c true u.1).0)

pub both_not : (a b : Bool) → (a && (b && true)) ≡ false → a ≡ true → b ≡ true → ⊥
both_not a b h f g = absurd (grind arith)

pub all_not : (a b c : Bool) → (a && (b && (c && true))) ≡ false → a ≡ true → b ≡ true
    → c ≡ true → ⊥
all_not a b c h f g i = absurd (grind arith)

-- no cell is in both carriers, or in all three
abbrev pub AreApart : Entry → Entry → Type 0
AreApart a b = (k : ℕ) → has a.carrier k ≡ true → has b.carrier k ≡ true → ⊥

abbrev pub AreThreeApart : Entry → Entry → Entry → Type 0
AreThreeApart a b c = (k : ℕ) → has a.carrier k ≡ true → has b.carrier k ≡ true
    → has c.carrier k ≡ true → ⊥

own_pair : (a : Entry) → a.x < a.y → IsBetween a a.x a.y
own_pair a l = (omega arith, omega arith)

pub like_pair : (a b : Entry) → a.x < a.y → a.x ≡ b.x → a.y ≡ b.y → IsBetween b a.x a.y
like_pair a b l e f = (omega arith, omega arith)

pub two_ways : (a b : Entry) → a.x < a.y → AreWays a b → AreApart a b → OrRule (a ∷ b ∷ []) a.x a.y
two_ways a b l w f = record {
  number = inl refl;
  kinds = All-cons (λ (v : Entry). v.kind ≡ Semi) a (b ∷ []) w.0
      (All-cons (λ (v : Entry). v.kind ≡ Semi) b [] w.1 (All-nil (λ (v : Entry). v.kind ≡ Semi)));
  pairs = All-cons (λ (v : Entry). IsBetween v a.x a.y) a (b ∷ []) (own_pair a l)
      (All-cons (λ (v : Entry). IsBetween v a.x a.y) b [] (like_pair a b l w.2 w.3) (All-nil (λ (v : Entry). IsBetween v a.x a.y)));
  free = λ k. both_full (has a.carrier k) (has b.carrier k) (f k);
}

pub three_ways : (a b c : Entry) → a.x < a.y → AreWays a b → AreWays a c → AreThreeApart a b c
    → OrRule (a ∷ b ∷ c ∷ []) a.x a.y
three_ways a b c l w v f = record {
  number = inr refl;
  kinds = All-cons (λ (z : Entry). z.kind ≡ Semi) a (b ∷ c ∷ []) w.0
      (All-cons (λ (z : Entry). z.kind ≡ Semi) b (c ∷ []) w.1
      (All-cons (λ (z : Entry). z.kind ≡ Semi) c [] v.1 (All-nil (λ (z : Entry). z.kind ≡ Semi))));
  pairs = All-cons (λ (z : Entry). IsBetween z a.x a.y) a (b ∷ c ∷ []) (own_pair a l)
      (All-cons (λ (z : Entry). IsBetween z a.x a.y) b (c ∷ []) (like_pair a b l w.2 w.3)
      (All-cons (λ (z : Entry). IsBetween z a.x a.y) c [] (like_pair a c l v.2 v.3) (All-nil (λ (z : Entry). IsBetween z a.x a.y))));
  free = λ k. all_full (has a.carrier k) (has b.carrier k) (has c.carrier k) (f k);
}

one_pair : (a b : Entry) (x y : ℕ) → IsBetween a x y → IsBetween b x y → (a.x ≡ b.x) × (a.y ≡ b.y)
one_pair a b x y h g = (h.0 ∙ sym g.0, h.1 ∙ sym g.1)

pub ways_two : (a b : Entry) (x y : ℕ) → OrRule (a ∷ b ∷ []) x y → AreWays a b × AreApart a b
ways_two a b x y r =
    let p = one_pair a b x y (All-head (λ (v : Entry). IsBetween v x y) a (b ∷ []) r.pairs)
    (second_of (λ (v : Entry). IsBetween v x y) a b [] r.pairs) in (
      (All-head (λ (v : Entry). v.kind ≡ Semi) a (b ∷ []) r.kinds, second_of (λ (v : Entry). v.kind ≡ Semi) a b [] r.kinds, p.0, p.1),
      λ k. both_not (has a.carrier k) (has b.carrier k) (r.free k),
    )

pub ways_three : (a b c : Entry) (x y : ℕ) → OrRule (a ∷ b ∷ c ∷ []) x y → AreWays a b × AreWays a c
    × AreThreeApart a b c
ways_three a b c x y r =
    let h = All-head (λ (v : Entry). IsBetween v x y) a (b ∷ c ∷ []) r.pairs in
    let p = one_pair a b x y h (second_of (λ (v : Entry). IsBetween v x y) a b (c ∷ []) r.pairs) in
    let q = one_pair a c x y h (third_of (λ (v : Entry). IsBetween v x y) a b c [] r.pairs) in
    let s = All-head (λ (v : Entry). v.kind ≡ Semi) a (b ∷ c ∷ []) r.kinds in (
      (s, second_of (λ (v : Entry). v.kind ≡ Semi) a b (c ∷ []) r.kinds, p.0, p.1),
      (s, third_of (λ (v : Entry). v.kind ≡ Semi) a b c [] r.kinds, q.0, q.1),
      λ k. all_not (has a.carrier k) (has b.carrier k) (has c.carrier k) (r.free k),
    )

-- ---- what the rule of OR gives is valid, and follows

or_valid : (e : PlayerBoard) (a entry : Entry) (c : ℕ) → IsValid e a → IsBetween entry a.x a.y
    → entry.carrier ≡ c → AllEmpty e.board c → Misses e a.x c → Misses e a.y c → IsValid e entry
or_valid e a entry c v h q f g i =
    let l : a.x < a.y = v.order in
    valid_from e entry a.x a.y c h (λ z. absurd (omega arith))
    (omega (arith, v.elements)) v.elements q f g i

like_misses : (e : PlayerBoard) (a b : Entry) → IsValid e b → AreWays a b → Misses e a.x b.carrier
    × Misses e a.y b.carrier
like_misses e a b v w
    = (subst (λ z. Misses e z b.carrier) (sym w.2) v.first, subst (λ z. Misses e z b.carrier) (sym w.3) v.second)

pair_is : (a entry : Entry) → a.x < a.y → IsBetween entry a.x a.y
    → (a.x ≡ entry.x) × (a.y ≡ entry.y)
pair_is a entry l h = (omega (arith, h.0), omega (arith, h.1))

or_rule : (ways : List Entry) (a entry : Entry) → a.x < a.y → IsBetween entry a.x a.y
    → OrRule ways a.x a.y → OrRule ways entry.x entry.y
or_rule ways a entry l h r = let p = pair_is a entry l h in
    subst (λ v. OrRule ways v entry.y) p.0 (subst (λ v. OrRule ways a.x v) p.1 r)

pub two_next : (d : StoreData) (i j : ℕ) (a b entry : Entry) → IsSound d
    → slice_get d.entries i ≡ Some a → slice_get d.entries j ≡ Some b
    → OrRule (a ∷ b ∷ []) a.x a.y → IsEntry entry Full a.x a.y (bit_or a.carrier b.carrier)
    (Or (i ∷ j ∷ 0 ∷ []) 2) → MayBeAdded d entry
two_next d i j a b entry s h g r n =
    let e = d.elements in
    let v = s.valid i a h in
    let w = s.valid j b g in
    let m = like_misses e a b w (ways_two a b a.x a.y r).0 in (
      or_valid e a entry (bit_or a.carrier b.carrier) v n.pair n.carrier_is
          (empty_both e a.carrier b.carrier v.empty w.empty)
          (misses_both e a.x a.carrier b.carrier v.first m.0)
          (misses_both e a.y a.carrier b.carrier v.second m.1),
      subst (λ z. FollowsBy e d.entries entry z) (sym n.cause_is)
          (a ∷ b ∷ [], at_two d.entries i j a b h g, or_rule (a ∷ b ∷ []) a entry v.order n.pair r, n.kind_is, n.carrier_is),
    )

pub at_three : (entries : List Entry) (i j k : ℕ) (a b c : Entry) → slice_get entries i ≡ Some a
    → slice_get entries j ≡ Some b → slice_get entries k ≡ Some c
    → AreAt entries (i ∷ j ∷ k ∷ []) (a ∷ b ∷ c ∷ [])
at_three entries i j k a b c h g f = cc

pub three_next : (d : StoreData) (i j k : ℕ) (a b c entry : Entry) → IsSound d
    → slice_get d.entries i ≡ Some a → slice_get d.entries j ≡ Some b
    → slice_get d.entries k ≡ Some c
    → OrRule (a ∷ b ∷ c ∷ []) a.x a.y
    → IsEntry entry Full a.x a.y (bit_or a.carrier (bit_or b.carrier c.carrier))
    (Or (i ∷ j ∷ k ∷ []) 3) → MayBeAdded d entry
three_next d i j k a b c entry s h g f r n =
    let e = d.elements in
    let v = s.valid i a h in
    let w = s.valid j b g in
    let z = s.valid k c f in
    let t = ways_three a b c a.x a.y r in
    let m = like_misses e a b w t.0 in
    let o = like_misses e a c z t.1 in
    let u = bit_or b.carrier c.carrier in (
      or_valid e a entry (bit_or a.carrier u) v n.pair n.carrier_is
          (empty_both e a.carrier u v.empty (empty_both e b.carrier c.carrier w.empty z.empty))
          (misses_both e a.x a.carrier u v.first (misses_both e a.x b.carrier c.carrier m.0 o.0))
          (misses_both e a.y a.carrier u v.second (misses_both e a.y b.carrier c.carrier m.1 o.1)),
      subst (λ q. FollowsBy e d.entries entry q) (sym n.cause_is)
          (a ∷ b ∷ c ∷ [], at_three d.entries i j k a b c h g f, or_rule (a ∷ b ∷ c ∷ []) a entry v.order n.pair r, n.kind_is, n.carrier_is),
    )

-- ways of one pair and number of ways
pub no_or_two : (d : StoreData) (i j : ℕ) (a b : Entry) → a.x < a.y → slice_get d.entries i ≡ Some a
    → slice_get d.entries j ≡ Some b
    → (OrRule (a ∷ b ∷ []) a.x a.y → ⊥) → CanOr d (i ∷ j ∷ []) → ⊥
no_or_two d i j a b l h g f ([], x, y, at, r) = absurd (cc)
no_or_two d i j a b l h g f (p ∷ [], x, y, at, r) = absurd (cc)
no_or_two d i j a b l h g f (p ∷ q ∷ [], x, y, at, r) =
    let e : p ≡ a = cc in
    let z : q ≡ b = cc in
    let w = ways_two p q x y r in
    f (subst (λ v. OrRule (a ∷ v ∷ []) a.x a.y) z (two_ways a q l (subst (λ v. AreWays v q) e w.0) (subst (λ v. AreApart v q) e w.1)))
no_or_two d i j a b l h g f (p ∷ q ∷ o ∷ ways, x, y, at, r) = absurd (cc)

pub no_or_three : (d : StoreData) (i j k : ℕ) (a b c : Entry) → a.x < a.y
    → slice_get d.entries i ≡ Some a → slice_get d.entries j ≡ Some b
    → slice_get d.entries k ≡ Some c
    → (OrRule (a ∷ b ∷ c ∷ []) a.x a.y → ⊥) → CanOr d (i ∷ j ∷ k ∷ []) → ⊥
no_or_three d i j k a b c l h g m f ([], x, y, at, r) = absurd (cc)
no_or_three d i j k a b c l h g m f (p ∷ [], x, y, at, r) = absurd (cc)
no_or_three d i j k a b c l h g m f (p ∷ q ∷ [], x, y, at, r) = absurd (cc)
no_or_three d i j k a b c l h g m f (p ∷ q ∷ o ∷ [], x, y, at, r) =
    let e : p ≡ a = cc in
    let z : q ≡ b = cc in
    let u : o ≡ c = cc in
    let w = ways_three p q o x y r in
    f (three_ways a b c l (subst (λ v. AreWays v b) e (subst (λ v. AreWays p v) z w.0)) (subst (λ v. AreWays v c) e (subst (λ v. AreWays p v) u w.1))
    (subst (λ v. AreThreeApart v b c) e (subst (λ v. AreThreeApart p v c) z (subst (λ v. AreThreeApart p q v) u w.2))))
no_or_three d i j k a b c l h g m f (p ∷ q ∷ o ∷ s ∷ ways, x, y, at, r) = absurd (cc)
