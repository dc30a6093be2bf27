-- A store that grows: what stays answered.
use Rattle.std.proofs.Common.{◌≡◌, ℕ, ◌+◌, ◌<◌, ◌≤◌, ◌⊎◌, ◌++◌, ◌∷◌, [], List, Some, length, min}
use Rattle.std.proofs.Common.{max, true, refl, sym, ◌∙◌, ap, subst, inl, inr, zero, suc, arith}
use Rattle.std.proofs.Common.{append_assoc, length-append}
use Rattle.std.specs.List.{slice_get}
use Rattle.std.proofs.lemmas.List.{append-nil}
use Rattle.hex_cells.specs.Sets.{has, with_cell}
use Rattle.hex_board.specs.Elements.{PlayerBoard}
use Rattle.conn_store.specs.Entries.{IsBetween}
use Rattle.conn_store.specs.Rules.{AndRule, AreAt, IsCell, IsGroup, both_of, union_of}
use Rattle.conn_store.specs.Stores.{IsCovered, IsPairFull, StoreData, after_put, most_of}
use Rattle.conn_store.specs.Stores.{numbers_from, numbers_of}
use Rattle.conn_store.specs.declared.entries.Entry.{Entry}
use Rattle.conn_store.specs.declared.entries.Kind.{Kind}
use Rattle.conn_store.specs.declared.entries.Kind.TheVariants.{Full, Semi}
use Rattle.conn_store.specs.declared.entries.Put.{Put}
use Rattle.conn_store.specs.declared.entries.Put.TheVariants.{Added, Dominated, PairFull}
use Rattle.conn_store.proofs.Numbers.{counted_full, full_counted, numbers_over}
use Rattle.conn_store.proofs.Tables.{of_itself}
use Rattle.hsearch.specs.Closed.{SettlesAnd, SettlesOr, HoldsEdge, IsSettled}
use Rattle.hsearch.specs.Taken.{Extends, IsOrSettled, IsAndSettled, IsAndSettledOver}

-- ---- more entries

pub grown_none : (d : StoreData) → Extends d d
grown_none d = record { elements = refl; entries = ([], sym (append-nil d.entries)) }

pub grown_on : (d f g : StoreData) → Extends d f → Extends f g → Extends d g
grown_on d f g a b = record {
  elements = b.elements ∙ a.elements;
  entries = (
    a.entries.0 ++ b.entries.0,
    b.entries.1 ∙ (ap (λ (v : List Entry). v ++ b.entries.0) a.entries.1
        ∙ append_assoc d.entries a.entries.0 b.entries.0),
  );
}

pub grown_put : (d : StoreData) (a : Entry) (put : Put) (f : StoreData) → f ≡ after_put d a put
    → Extends d f
grown_put d a put f e = subst (λ (v : StoreData). Extends d v) (sym e) (there put)
  where
    there : (put : Put) → Extends d (after_put d a put)
    there (Added n) = record { elements = refl; entries = (a ∷ [], refl) }
    there Dominated = grown_none d
    there PairFull = grown_none d

pub grown_longer : (d f : StoreData) → Extends d f → length d.entries ≤ length f.entries
grown_longer d f g =
    let e : length f.entries ≡ length d.entries + length g.entries.0 = ap length g.entries.1
    ∙ length-append d.entries g.entries.0 in omega arith

front_stays : (xs ys : List Entry) (i : ℕ) (a : Entry) → slice_get xs i ≡ Some a
    → slice_get (xs ++ ys) i ≡ Some a
front_stays [] ys i a h = absurd (cc)
front_stays (x ∷ xs) ys zero a h = h
front_stays (x ∷ xs) ys (suc i) a h = front_stays xs ys i a h

pub entry_stays : (d f : StoreData) (i : ℕ) (a : Entry) → Extends d f
    → slice_get d.entries i ≡ Some a → slice_get f.entries i ≡ Some a
entry_stays d f i a g h = subst (λ (v : List Entry). slice_get v i ≡ Some a) (sym g.entries.1)
    (front_stays d.entries g.entries.0 i a h)

front_was : (xs ys : List Entry) (i : ℕ) (a : Entry) → i < length xs
    → slice_get (xs ++ ys) i ≡ Some a → slice_get xs i ≡ Some a
front_was [] ys i a l h = absurd (omega arith)
front_was (x ∷ xs) ys zero a l h = h
front_was (x ∷ xs) ys (suc i) a l h = front_was xs ys i a (omega arith) h

pub entry_was : (d f : StoreData) (i : ℕ) (a : Entry) → Extends d f → i < length d.entries
    → slice_get f.entries i ≡ Some a → slice_get d.entries i ≡ Some a
entry_was d f i a g l h
    = front_was d.entries g.entries.0 i a l
    (subst (λ (v : List Entry). slice_get v i ≡ Some a) g.entries.1 h)

-- ---- answers stay

pub covered_stays : (d f : StoreData) (kind : Kind) (x y c : ℕ) → Extends d f
    → IsCovered d kind x y c → IsCovered f kind x y c
covered_stays d f kind x y c g (i, a, h, o, s) = (i, a, entry_stays d f i a g h, o, s)

full_stays : (d f : StoreData) (kind : Kind) (x y : ℕ) → Extends d f → IsPairFull d kind x y
    → IsPairFull f kind x y
full_stays d f kind x y g h =
    let e : numbers_of f kind x y ≡ numbers_of d kind x y ++ numbers_from
    (0 + length d.entries) kind x y g.entries.0 =
    ap (λ (v : List Entry). numbers_from 0 kind x y v) g.entries.1
    ∙ numbers_over 0 kind x y d.entries g.entries.0 in
    let l : length (numbers_of f kind x y) ≡ length (numbers_of d kind x y) + length
    (numbers_from (0 + length d.entries) kind x y g.entries.0) =
    ap length e ∙ length-append (numbers_of d kind x y)
    (numbers_from (0 + length d.entries) kind x y g.entries.0) in
    let m : most_of kind ≤ length (numbers_of d kind x y) = full_counted d kind x y h in
    let n : most_of kind ≤ length (numbers_of f kind x y) = omega arith in
    counted_full f kind x y n

pub answer_stays : (d f : StoreData) (kind : Kind) (x y c : ℕ) → Extends d f
    → IsSettled d kind x y c → IsSettled f kind x y c
answer_stays d f kind x y c g (inl h) = inl (covered_stays d f kind (min x y) (max x y) c g h)
answer_stays d f kind x y c g (inr h) = inr (full_stays d f kind (min x y) (max x y) g h)

pub wider_answer : (d : StoreData) (kind : Kind) (x y b c : ℕ)
    → ((k : ℕ) → has b k ≡ true → has c k ≡ true) → IsSettled d kind x y b → IsSettled d kind x y c
wider_answer d kind x y b c s (inl (i, a, h, o, t)) = inl (i, a, h, o, λ k g. s k (t k g))
wider_answer d kind x y b c s (inr h) = inr h

pub and_stays : (d f : StoreData) (a b : Entry) (x u y : ℕ) → Extends d f → SettlesAnd d a b x u y
    → SettlesAnd f a b x u y
and_stays d f a b x u y g h r n =
    let w = h (subst (λ (e : PlayerBoard). AndRule e a b x u y) g.elements r)
    (λ z. n (subst (λ (e : PlayerBoard). HoldsEdge e u) (sym g.elements) z)) in (
      λ q. answer_stays d f Full x y (both_of a b) g
          (w.0 (subst (λ (e : PlayerBoard). IsGroup e u) g.elements q)),
      λ k q. answer_stays d f Semi x y (with_cell (both_of a b) k) g
          (w.1 k (subst (λ (e : PlayerBoard). IsCell e u k) g.elements q)),
    )

pub or_stays : (d f : StoreData) (ways : List Entry) (x y : ℕ) → Extends d f → SettlesOr d ways x y
    → SettlesOr f ways x y
or_stays d f ways x y g h r = answer_stays d f Full x y (union_of ways) g (h r)

pub two_were : (d f : StoreData) (i j : ℕ) (a b : Entry) → Extends d f → i < length d.entries
    → j < length d.entries → AreAt f.entries (i ∷ j ∷ []) (a ∷ b ∷ [])
    → AreAt d.entries (i ∷ j ∷ []) (a ∷ b ∷ [])
two_were d f i j a b g l m h =
    let p : slice_get f.entries i ≡ Some a = cc in
    let q : slice_get f.entries j ≡ Some b = cc in
    let r : slice_get d.entries i ≡ Some a = entry_was d f i a g l p in
    let s : slice_get d.entries j ≡ Some b = entry_was d f j b g m q in cc

pub joined_stays : (d f : StoreData) (i j : ℕ) → Extends d f → i < length d.entries
    → j < length d.entries → IsAndSettled d i j → IsAndSettled f i j
joined_stays d f i j g l m h a b x u y at
    = and_stays d f a b x u y g (h a b x u y (two_were d f i j a b g l m at))

pub over_stays : (d f : StoreData) (i j u : ℕ) → Extends d f → i < length d.entries
    → j < length d.entries → IsAndSettledOver d i j u → IsAndSettledOver f i j u
over_stays d f i j u g l m h a b x y at
    = and_stays d f a b x u y g (h a b x y (two_were d f i j a b g l m at))

-- the numbers are those of entries
abbrev pub AreWithin : ℕ → List ℕ → Type 0
AreWithin n [] = Unit {0}
AreWithin n (i ∷ numbers) = (i < n) × AreWithin n numbers

pub ways_were : (d f : StoreData) (numbers : List ℕ) (ways : List Entry) → Extends d f
    → AreWithin (length d.entries) numbers → AreAt f.entries numbers ways
    → AreAt d.entries numbers ways
ways_were d f [] ways g l h = h
ways_were d f (i ∷ numbers) [] g l h = absurd (cc)
ways_were d f (i ∷ numbers) (a ∷ ways) g l h =
    let p : slice_get f.entries i ≡ Some a = cc in
    let q : AreAt f.entries numbers ways = cc in
    let r : slice_get d.entries i ≡ Some a = entry_was d f i a g l.0 p in
    let s : AreAt d.entries numbers ways = ways_were d f numbers ways g l.1 q in cc

pub chosen_stays : (d f : StoreData) (numbers : List ℕ) → Extends d f
    → AreWithin (length d.entries) numbers → IsOrSettled d numbers → IsOrSettled f numbers
chosen_stays d f numbers g l h ways x y at
    = or_stays d f ways x y g (h ways x y (ways_were d f numbers ways g l at))

-- ---- an entry that was handed to the store

last_stands : (xs : List Entry) (a : Entry) → slice_get (xs ++ a ∷ []) (length xs) ≡ Some a
last_stands [] a = refl
last_stands (x ∷ xs) a = last_stands xs a

-- what the store says of an entry
pub record IsPut (d f : StoreData) (a : Entry) (put : Put) : Type 0 where
  pub dominated : put ≡ Dominated → IsCovered d a.kind a.x a.y a.carrier
  pub full : put ≡ PairFull → IsPairFull d a.kind a.x a.y
  pub after : f ≡ after_put d a put

pub put_answers : (d f : StoreData) (a : Entry) (put : Put) → IsPut d f a put
    → IsCovered f a.kind a.x a.y a.carrier ⊎ IsPairFull f a.kind a.x a.y
put_answers d f a (Added n) p = inl (
  length d.entries,
  a,
  ap (λ (v : StoreData). slice_get v.entries (length d.entries)) p.after ∙ last_stands d.entries a,
  of_itself a,
  λ k h. h,
)
put_answers d f a Dominated p
    = inl (subst (λ (v : StoreData). IsCovered v a.kind a.x a.y a.carrier) (sym p.after) (p.dominated refl))
put_answers d f a PairFull p
    = inr (subst (λ (v : StoreData). IsPairFull v a.kind a.x a.y) (sym p.after) (p.full refl))

-- the entry of x and y is answered
pub answered : (d f : StoreData) (a : Entry) (put : Put) (kind : Kind) (x y c : ℕ) → IsPut d f a put
    → IsBetween a x y → a.kind ≡ kind → a.carrier ≡ c → IsSettled f kind x y c
answered d f a put kind x y c p b k s = elim (put_answers d f a put p) [
  | inl h ↦ inl
      (subst (λ v. IsCovered f kind (min x y) (max x y) v) s (subst (λ v. IsCovered f v (min x y) (max x y) a.carrier) k
      (subst (λ v. IsCovered f a.kind v (max x y) a.carrier) b.0 (subst (λ v. IsCovered f a.kind a.x v a.carrier) b.1 h))))
  | inr h ↦ inr
      (subst (λ v. IsPairFull f v (min x y) (max x y)) k (subst (λ v. IsPairFull f a.kind v (max x y)) b.0 (subst (λ v. IsPairFull f a.kind a.x v) b.1 h)))
]
