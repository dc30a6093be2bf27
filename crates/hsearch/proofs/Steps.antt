-- One step of the search: what is answered after it.
use Rattle.std.proofs.Common.{◌↔◌, IsTrue, MatchOption, ◌≡◌, ℕ, ◌+◌, ◌<◌, ◌≤◌, ◌⊎◌, ◌∷◌, [], List}
use Rattle.std.proofs.Common.{Some, length, get_or, set, map, take, Bool, min, max, true, false}
use Rattle.std.proofs.Common.{All, refl, sym, ◌∙◌, ap, subst, inl, inr, zero, suc, ◌++◌, arith}
use Rattle.std.proofs.Common.{below_more}
use Rattle.std.specs.List.{Contains, slice_get}
use Rattle.std.proofs.lemmas.Bool.{both_ways, cases_Bool, cases_eq, cases_lt, cases_order}
use Rattle.std.proofs.lemmas.List.{get_or-set_other, get_or-set_same, get_or_default}
use Rattle.std.proofs.lemmas.List.Elements.{All-head, Contains-get_or}
use Rattle.std.proofs.lemmas.Option.{same_Some, slice_get_within}
use Rattle.hex_cells.specs.Sets.{has, with_cell}
use Rattle.hex_cells.proofs.Bits.{has_none}
use Rattle.hex_cells.proofs.WithCell.{with_cell-here}
use Rattle.hex_board.specs.Elements.{HasCell, PlayerBoard, element_count}
use Rattle.hex_board.specs.Places.{is_near}
use Rattle.conn_store.specs.Entries.{IsBetween}
use Rattle.conn_store.specs.Over.{IsFullOf, IsOneCell, IsOver}
use Rattle.conn_store.specs.Rules.{AndRule, AreAt, FollowsBy, IsCell, IsGroup, OrRule}
use Rattle.conn_store.specs.Rules.{adjacent_entry, both_of, union_of}
use Rattle.conn_store.specs.Stores.{CanOr, GivesAnd, IsCovered, MayBeAdded, IsPairFull, IsSound}
use Rattle.conn_store.specs.Stores.{StoreData, after_put, held_of, is_of, numbers_of}
use Rattle.conn_store.specs.declared.entries.Cause.{Cause}
use Rattle.conn_store.specs.declared.entries.Cause.TheVariants.{Adjacent, AndEmpty, AndGroup, Or}
use Rattle.conn_store.specs.declared.entries.Entry.{Entry}
use Rattle.conn_store.specs.declared.entries.Held.{Held}
use Rattle.conn_store.specs.declared.entries.Kind.{Kind}
use Rattle.conn_store.specs.declared.entries.Kind.TheVariants.{Full, Semi}
use Rattle.conn_store.specs.declared.entries.Put.{Put}
use Rattle.conn_store.specs.declared.rules.EntryOver.{EntryOver}
use Rattle.conn_store.specs.declared.entries.Put.TheVariants.{Added, Dominated, PairFull}
use Rattle.conn_store.proofs.Numbers.{full_counted, numbers_all, numbers_in}
pub use Rattle.conn_store.proofs.Overs.{at_first, at_second}
use Rattle.conn_store.proofs.Overs.{same_end}
use Rattle.conn_store.proofs.RuleEntries.{at_three, at_two}
use Rattle.conn_store.proofs.RuleTruth.{second_of, third_of}
use Rattle.conn_store.proofs.Tables.{held_count, last_or_before, number_at, number_within}
use Rattle.conn_store.proofs.Tables.{of_itself}
use Rattle.hsearch.specs.Closed.{SettlesOr, IsRuleClosed, IsKept}
use Rattle.hsearch.specs.Listed.{AreListed, IsFullAt, Lists}
use Rattle.hsearch.specs.Taken.{AreBare, AreNearBelow, Extends, IsOrSettled, IsCombined}
use Rattle.hsearch.specs.Taken.{IsAndSettled, IsAndSettledOver, IsOfPair, IsTaken, AreTaken}
use Rattle.hsearch.specs.Taken.{IsMarked, AreMarked, IsGrown}
use Rattle.hsearch.specs.Waiting.{IsWithRange, IsWith}
use Rattle.hsearch.proofs.Growth.{AreWithin, IsPut, answered, chosen_stays, covered_stays}
use Rattle.hsearch.proofs.Growth.{entry_stays, entry_was, grown_longer, grown_on, grown_put}
use Rattle.hsearch.proofs.Growth.{joined_stays, over_stays, put_answers, two_were, ways_were}
use Rattle.hsearch.proofs.Orders.{first_again, first_twice, last_first, swapped_first, swapped_last}
use Rattle.hsearch.proofs.Orders.{swapped_two, three_of, turned_and, turned_pair, two_enough}
use Rattle.hsearch.proofs.Orders.{two_of, way_twice}
use Rattle.hsearch.proofs.Queues.{contains_none, with_cases}

-- ---- two entries by AND

pub joined_put : (d f : StoreData) (i j : ℕ) (entry : Entry) (put : Put) → i < length d.entries
    → j < length d.entries → GivesAnd d i j entry → IsPut d f entry put → IsAndSettled f i j
joined_put d f i j entry put l m g p a b x u y at r n =
    let e : Extends d f = grown_put d entry put f p.after in
    let o = g a b x u y (two_were d f i j a b e l m at)
    (subst (λ (v : PlayerBoard). AndRule v a b x u y) e.elements r) in (
      λ q. let t = o.group (subst (λ (v : PlayerBoard). IsGroup v u) e.elements q) in
          answered d f entry put Full x y (both_of a b) p o.pair t.0 t.1,
      λ k q. let t = o.cell k (subst (λ (v : PlayerBoard). IsCell v u k) e.elements q) in
          answered d f entry put Semi x y (with_cell (both_of a b) k) p o.pair t.0 t.1,
    )

-- ---- ways by OR

some_lists : (xs ys : List Entry) → map Some xs ≡ map Some ys → xs ≡ ys
some_lists [] [] h = refl
some_lists [] (y ∷ ys) h = absurd (cc)
some_lists (x ∷ xs) [] h = absurd (cc)
some_lists (x ∷ xs) (y ∷ ys) h =
    let e : x ≡ y = cc in
    let t : map Some xs ≡ map Some ys = cc in
    let r : xs ≡ ys = some_lists xs ys t in cc

one_of_ways : (ways : List Entry) (x y v w : ℕ) → v < w → OrRule ways v w → OrRule ways x y
    → (v ≡ min x y) × (w ≡ max x y)
one_of_ways [] x y v w l r s
    = elim r.number [ inl h ↦ absurd (omega arith) | inr h ↦ absurd (omega arith) ]
one_of_ways (a ∷ ways) x y v w l r s =
    let p = All-head (λ (z : Entry). IsBetween z v w) a ways r.pairs in
    let q = All-head (λ (z : Entry). IsBetween z x y) a ways s.pairs in
    pair_is v w (min x y) (max x y) a.x a.y l p.0 p.1 q.0 q.1
  where
    pair_is : (v w m n p q : ℕ) → v < w → p ≡ min v w → q ≡ max v w → p ≡ m → q ≡ n
        → (v ≡ m) × (w ≡ n)
    pair_is v w m n p q l h g i o = (omega arith, omega arith)

pub chosen_put : (d f : StoreData) (numbers all : List ℕ) (count : ℕ) (entry : Entry) (put : Put)
    → AreWithin (length d.entries) numbers → MayBeAdded d entry
    → entry.cause ≡ Or all count → take count all ≡ numbers → IsPut d f entry put
    → IsOrSettled f numbers
chosen_put d f numbers all count entry put l n c t p ways x y at r =
    let e : Extends d f = grown_put d entry put f p.after in
    let here : AreAt d.entries numbers ways = ways_were d f numbers ways e l at in
    let w : FollowsBy d.elements d.entries entry (Or all count)
    = subst (λ v. FollowsBy d.elements d.entries entry v) c n.1 in
    let there : AreAt d.entries numbers w.0 = subst (λ v. AreAt d.entries v w.0) t w.1 in
    let q : w.0 ≡ ways = some_lists w.0 ways (sym there ∙ here) in
    let s : OrRule ways entry.x entry.y = subst (λ v. OrRule v entry.x entry.y) q w.2 in
    answered d f entry put Full x y (union_of ways) p
    (one_of_ways ways x y entry.x entry.y n.0.order s r) w.3 (w.4 ∙ ap union_of q)

-- ---- pairs side by side

near_covers : (a : Entry) (c : ℕ) → a.carrier ≡ 0 → (k : ℕ) → has a.carrier k ≡ true
    → has c k ≡ true
near_covers a c q k h = absurd (both_ways (has a.carrier k) (ap (λ v. has v k) q ∙ has_none k) h)

-- a pair of which there is an entry is covered by it
bare_covered : (d : StoreData) (x y : ℕ) → AreBare d → IsPairFull d Full x y
    → IsCovered d Full x y 0
bare_covered d x y b h =
    let m : 4 ≤ length (numbers_of d Full x y) = full_counted d Full x y h in
    let l : 0 < length (numbers_of d Full x y) = omega arith in
    let w = numbers_in 0 Full x y d.entries 0 l in
    (w.0, w.1, w.3, w.4, near_covers w.1 0 (b w.0 w.1 w.3))

pub near_put : (d f : StoreData) (x y : ℕ) (entry : Entry) (put : Put) → AreBare d
    → entry ≡ adjacent_entry x y → IsPut d f entry put → (IsCovered f Full x y 0) × AreBare f
near_put d f x y entry put b q p = (
  elim (subst (λ (a : Entry). IsCovered f a.kind a.x a.y a.carrier ⊎ IsPairFull f a.kind a.x a.y) q (put_answers d f entry put p)) [
    | inl h ↦ h
    | inr h ↦ bare_covered f x y bare h
  ],
  bare,
)
  where
    bare_put : (d : StoreData) (entry : Entry) (put : Put) → AreBare d → entry.carrier ≡ 0
        → AreBare (after_put d entry put)
    bare_put d entry (Added n) b c
        = λ i a h. elim (last_or_before d.entries entry a i h) [ inl t ↦ b i a t.1 | inr t ↦ ap (λ (v : Entry). v.carrier) t.1 ∙ c ]
    bare_put d entry Dominated b c = b
    bare_put d entry PairFull b c = b

    bare : AreBare f
    bare = subst (λ (v : StoreData). AreBare v) (sym p.after)
        (bare_put d entry put b (ap (λ (a : Entry). a.carrier) q))

pub near_stays : (d f : StoreData) (n : ℕ) → Extends d f → AreNearBelow d n → AreNearBelow f n
near_stays d f n g h x y l m r
    = covered_stays d f Full x y 0 g
    (h x y l m (subst (λ (e : PlayerBoard). is_near e x y ≡ true) g.elements r))

-- the pairs of one element more
pub near_more : (f : StoreData) (y : ℕ) → AreNearBelow f y
    → ((x : ℕ) → x < y → is_near f.elements x y ≡ true → IsCovered f Full x y 0)
    → AreNearBelow f (y + 1)
near_more f y h g x z l m r = elim (cases_lt z y) [
  | inl b ↦ h x z l b r
  | inr b ↦ let q : y ≡ z = omega arith in
      subst (λ v. IsCovered f Full x v 0) q
      (g x (omega arith) (subst (λ v. is_near f.elements x v ≡ true) (sym q) r))
]

-- what is known when the elements below x were tried with y
pub record IsNearTo (d f : StoreData) (x y : ℕ) : Type 0 where
  pub grown : Extends d f
  pub bare : AreBare f
  pub before : AreNearBelow f y
  pub done : (z : ℕ) → z < x → is_near f.elements z y ≡ true → IsCovered f Full z y 0

pub near_some : (d f g : StoreData) (x y : ℕ) (entry : Entry) (put : Put) → IsNearTo d f x y
    → entry ≡ adjacent_entry x y → IsPut f g entry put → IsNearTo d g (x + 1) y
near_some d f g x y entry put n q p =
    let e : Extends f g = grown_put f entry put g p.after in
    let w = near_put f g x y entry put n.bare q p in
    record {
      grown = grown_on d f g n.grown e;
      bare = w.1;
      before = near_stays f g y e n.before;
      done = λ z l r. elim (cases_lt z x) [
        | inl b ↦ covered_stays f g Full z y 0 e
            (n.done z b (subst (λ (v : PlayerBoard). is_near v z y ≡ true) e.elements r))
        | inr b ↦ let same : x ≡ z = omega arith in subst (λ v. IsCovered g Full v y 0) same w.0
      ];
    }

pub near_none : (d f : StoreData) (x y : ℕ) → IsNearTo d f x y → is_near f.elements x y ≡ false
    → IsNearTo d f (x + 1) y
near_none d f x y n h = record {
  grown = n.grown;
  bare = n.bare;
  before = n.before;
  done = λ z l r. elim (cases_lt z x) [
    | inl b ↦ n.done z b r
    | inr b ↦ let same : z ≡ x = omega arith in
        absurd (both_ways (is_near f.elements x y) h (subst (λ v. is_near f.elements v y ≡ true) same r))
  ];
}

-- ---- all entries of a pair

of_from : (kind : Kind) (x y : ℕ) (b : Entry) → b.kind ≡ kind → b.x ≡ x → b.y ≡ y
    → is_of kind x y b ≡ true
of_from kind x y b p q r
    = subst (λ v. is_of v x y b ≡ true) p
    (subst (λ v. is_of b.kind v y b ≡ true) q (subst (λ v. is_of b.kind b.x v b ≡ true) r (of_itself b)))

pub held_within : (d : StoreData) (kind : Kind) (x y : ℕ) (h : Held) (p : ℕ)
    → h ≡ held_of (numbers_of d kind x y) → p < h.count → get_or h.at p 0 < length d.entries
held_within d kind x y h p e l =
    let c : h.count ≡ length (numbers_of d kind x y) = held_count h (numbers_of d kind x y) e in
    subst (λ (v : Held). get_or v.at p 0 < length d.entries) (sym e)
    (number_within d kind x y p (omega arith))

-- the place at which the entry's number stands
pub held_has : (d : StoreData) (kind : Kind) (x y i : ℕ) (h : Held) (b : Entry)
    → h ≡ held_of (numbers_of d kind x y) → slice_get d.entries i ≡ Some b
    → b.kind ≡ kind → b.x ≡ x → b.y ≡ y → (p : ℕ) × (p < h.count) × (get_or h.at p 0 ≡ i)
held_has d kind x y i h b e g k m n =
    let w = numbers_all 0 kind x y d.entries i b g (of_from kind x y b k m n) in
    let c : h.count ≡ length (numbers_of d kind x y) = held_count h (numbers_of d kind x y) e in
    let l : 0 + i ≡ i = omega arith in
    let a : get_or h.at w.0 0 ≡ i = ap (λ (v : Held). get_or v.at w.0 0) e
    ∙ (number_at (numbers_of d kind x y) w.0 w.1 ∙ (w.2 ∙ l)) in
    (w.0, omega arith, a)

pub at_place : (list : List ℕ) (q : ℕ) → q < length list → Contains list (get_or list q 0)
at_place list q l = Contains-get_or list q 0 l

place_of : (list : List ℕ) (i : ℕ) → Contains list i → (q : ℕ) × (q < length list)
    × (get_or list q 0 ≡ i)
place_of list i (q, l, e) = (q, l, get_or_default list q 0 i l ∙ e)

-- what the store answers over a middle
pub over_put : (d f : StoreData) (i j u : ℕ) (entry : Entry) (put : Put) → i < length d.entries
    → j < length d.entries → GivesAnd d i j entry → IsPut d f entry put → IsAndSettledOver f i j u
over_put d f i j u entry put l m g p a b x y at = joined_put d f i j entry put l m g p a b x u y at

-- what is known when the numbers at the places below p of a list were gone through
pub record IsJoined (d f : StoreData) (n u : ℕ) (list : List ℕ) (p : ℕ) : Type 0 where
  pub grown : Extends d f
  pub done : (q : ℕ) → q < p → IsAndSettledOver f n (get_or list q 0) u

pub joined_more : (d f g : StoreData) (n u : ℕ) (list : List ℕ) (p : ℕ) → IsJoined d f n u list p
    → Extends f g → n < length d.entries → p < length list
    → ((i : ℕ) → Contains list i → i < length d.entries) → IsAndSettledOver g n (get_or list p 0) u
    → IsJoined d g n u list (p + 1)
joined_more d f g n u list p j e l k w s =
    let m : length d.entries ≤ length f.entries = grown_longer d f j.grown in
    record {
      grown = grown_on d f g j.grown e;
      done = below_more (λ q. IsAndSettledOver g n (get_or list q 0) u) p
          (λ q b. over_stays f g n (get_or list q 0) u e (omega arith)
          (let z : get_or list q 0 < length d.entries = w (get_or list q 0) (at_place list q (omega arith)) in omega arith) (j.done q b)) s;
    }

-- all numbers of the list were gone through
pub joined_all : (f : StoreData) (n u : ℕ) (list : List ℕ)
    → ((q : ℕ) → q < length list → IsAndSettledOver f n (get_or list q 0) u) → (i : ℕ)
    → Contains list i → IsAndSettledOver f n i u
joined_all f n u list done i c = let w = place_of list i c in
    subst (λ v. IsAndSettledOver f n v u) w.2 (done w.0 w.1)

-- an entry over its middle stays what it is
pub full_at : (d : StoreData) (n : ℕ) (a : Entry) → slice_get d.entries n ≡ Some a → a.kind ≡ Full
    → a.x < a.y → IsFullAt d n a.y a.x × IsFullAt d n a.x a.y
full_at d n a h k l = (
  λ b g. subst (λ (v : Entry). IsFullOf v a.y a.x) (same_Some a b (sym h ∙ g))
      (record { kind = k; pair = (omega arith, omega arith) }),
  λ b g. subst (λ (v : Entry). IsFullOf v a.x a.y) (same_Some a b (sym h ∙ g))
      (record { kind = k; pair = (omega arith, omega arith) }),
)

pub full_grown : (d f : StoreData) (n x u : ℕ) → Extends d f → n < length d.entries
    → IsFullAt d n x u → IsFullAt f n x u
full_grown d f n x u g l b a h = b a (entry_was d f n a g l h)

pub over_kept : (d f : StoreData) (v : EntryOver) → Extends d f → IsOver d v → IsOver f v
over_kept d f v g o =
    let e = sym g.elements in
    record {
      entry = (o.entry.0, entry_stays d f v.number o.entry.0 g o.entry.1, o.entry.2, o.entry.3);
      cells = subst (λ (z : PlayerBoard). (k : ℕ) → IsTrue (has v.cells k) ↔ HasCell z v.end k) e o.cells;
      middle = subst (λ (z : PlayerBoard). MatchOption v.cell (IsGroup z v.middle) (IsOneCell z v.middle)) e o.middle;
    }

-- ---- all ways of a pair

of_two : (entries : List Entry) (n i : ℕ) (ways : List Entry) → AreAt entries (n ∷ i ∷ []) ways
    → (a : Entry) × (b : Entry) × (ways ≡ a ∷ b ∷ []) × (slice_get entries n ≡ Some a)
    × (slice_get entries i ≡ Some b)
of_two entries n i [] h = absurd (cc)
of_two entries n i (a ∷ []) h = absurd (cc)
of_two entries n i (a ∷ b ∷ []) h = (a, b, refl, cc, cc)
of_two entries n i (a ∷ b ∷ c ∷ ways) h = absurd (cc)

of_three : (entries : List Entry) (n i j : ℕ) (ways : List Entry)
    → AreAt entries (n ∷ i ∷ j ∷ []) ways
    → (a : Entry) × (b : Entry) × (c : Entry) × (ways ≡ a ∷ b ∷ c ∷ [])
    × (slice_get entries n ≡ Some a) × (slice_get entries i ≡ Some b)
    × (slice_get entries j ≡ Some c)
of_three entries n i j [] h = absurd (cc)
of_three entries n i j (a ∷ []) h = absurd (cc)
of_three entries n i j (a ∷ b ∷ []) h = absurd (cc)
of_three entries n i j (a ∷ b ∷ c ∷ []) h = (a, b, c, refl, cc, cc, cc)
of_three entries n i j (a ∷ b ∷ c ∷ d ∷ ways) h = absurd (cc)

like_first : (a b : Entry) (x y v w : ℕ) → IsBetween a v w → IsBetween b v w → a.x ≡ x → a.y ≡ y
    → (b.x ≡ x) × (b.y ≡ y)
like_first a b x y v w h g p q = (g.0 ∙ (sym h.0 ∙ p), g.1 ∙ (sym h.1 ∙ q))

-- what the loops over the ways leave
pub record AreChosen (f : StoreData) (taken : List Bool) (n : ℕ) (h : Held) (p : ℕ) : Type 0 where
  pub twos : (q : ℕ) → q < p → IsMarked taken (get_or h.at q 0)
      → IsOrSettled f (n ∷ get_or h.at q 0 ∷ [])
  pub threes : (q r : ℕ) → q < p → r < q → IsMarked taken (get_or h.at q 0)
      → IsMarked taken (get_or h.at r 0) → IsOrSettled f (n ∷ get_or h.at q 0 ∷ get_or h.at r 0 ∷ [])

pub chosen_first : (f : StoreData) (taken : List Bool) (n : ℕ) (h : Held) → AreChosen f taken n h 0
chosen_first f taken n h
    = record { twos = λ q l m. absurd (omega arith); threes = λ q r l m i j. absurd (omega arith) }

-- the way at one place more
pub chosen_more : (d f : StoreData) (taken : List Bool) (n : ℕ) (h : Held) (p : ℕ)
    → AreChosen d taken n h p → Extends d f → n < length d.entries
    → ((q : ℕ) → q < h.count → get_or h.at q 0 < length d.entries) → p < h.count
    → IsOrSettled f (n ∷ get_or h.at p 0 ∷ [])
    → ((q : ℕ) → q < p → IsMarked taken (get_or h.at q 0) → IsOrSettled f (n ∷ get_or h.at p 0 ∷ get_or h.at q 0 ∷ [])) → AreChosen f taken n h (p + 1)
chosen_more d f taken n h p a g l w m two three = record {
  twos = below_more
      (λ q. IsMarked taken (get_or h.at q 0) → IsOrSettled f (n ∷ get_or h.at q 0 ∷ [])) p
      (λ q b k. chosen_stays d f (n ∷ get_or h.at q 0 ∷ []) g (l, (w q (omega arith), tt)) (a.twos q b k)) (λ k. two);
  threes = λ q r b o i j. below_more
      (λ z. z ≤ p → (v : ℕ) → v < z → IsMarked taken (get_or h.at z 0) → IsMarked taken (get_or h.at v 0)
      → IsOrSettled f (n ∷ get_or h.at z 0 ∷ get_or h.at v 0 ∷ [])) p
      (λ z b o v k s t. chosen_stays d f (n ∷ get_or h.at z 0 ∷ get_or h.at v 0 ∷ []) g
      (l, (w z (omega arith), (w v (omega arith), tt))) (a.threes z v b k s t))
      (λ o v k s t. three v k t) q b (omega arith) r o i j;
}

-- the way at one place more was not taken
pub chosen_none : (d : StoreData) (taken : List Bool) (n : ℕ) (h : Held) (p : ℕ)
    → AreChosen d taken n h p → ¬ (IsMarked taken (get_or h.at p 0)) → AreChosen d taken n h (p + 1)
chosen_none d taken n h p a w = record {
  twos = below_more
      (λ q. IsMarked taken (get_or h.at q 0) → IsOrSettled d (n ∷ get_or h.at q 0 ∷ [])) p
      (λ q b k. a.twos q b k) (λ k. absurd (w k));
  threes = λ q r b o i j. below_more
      (λ z. z ≤ p → (v : ℕ) → v < z → IsMarked taken (get_or h.at z 0) → IsMarked taken (get_or h.at v 0)
      → IsOrSettled d (n ∷ get_or h.at z 0 ∷ get_or h.at v 0 ∷ [])) p
      (λ z b o v k s t. a.threes z v b k s t) (λ o v k s t. absurd (w s)) q b (omega arith) r o i j;
}

-- two ways that will do: a third one adds nothing
pub thirds_wider : (d f : StoreData) (n i : ℕ) → Extends d f → n < length d.entries
    → i < length d.entries → CanOr d (n ∷ i ∷ []) → IsOrSettled f (n ∷ i ∷ []) → (j : ℕ)
    → IsOrSettled f (n ∷ i ∷ j ∷ [])
thirds_wider d f n i g l m (two, v, w, here, rule) h j ways x y at =
    let t = of_three f.entries n i j ways at in
    let u = of_two d.entries n i two here in
    let p : u.0 ≡ t.0 = same_Some u.0 t.0 (sym (entry_stays d f n u.0 g u.3) ∙ t.4) in
    let q : u.1 ≡ t.1 = same_Some u.1 t.1 (sym (entry_stays d f i u.1 g u.4) ∙ t.5) in
    let r = two_of u.0 u.1 v w (subst (λ z. OrRule z v w) u.2 rule) in
    subst (λ z. SettlesOr f z x y) (sym t.3) (two_enough f t.0 t.1 t.2 x y
    (λ k a b. r.free k (subst (λ (z : Entry). has z.carrier k ≡ true) (sym p) a) (subst (λ (z : Entry). has z.carrier k ≡ true) (sym q) b))
    (h (t.0 ∷ t.1 ∷ []) x y (at_two f.entries n i t.0 t.1 t.4 t.5)))

-- what the loop over the third ways leaves
pub record AreThirds (d f : StoreData) (taken : List Bool) (n i : ℕ) (h : Held)
    (p : ℕ) : Type 0 where
  pub grown : Extends d f
  pub two : IsOrSettled f (n ∷ i ∷ [])
  pub threes : (q : ℕ) → q < p → IsMarked taken (get_or h.at q 0)
      → IsOrSettled f (n ∷ i ∷ get_or h.at q 0 ∷ [])

pub thirds_more : (d f g : StoreData) (taken : List Bool) (n i : ℕ) (h : Held) (p : ℕ)
    → AreThirds d f taken n i h p → Extends f g → n < length d.entries → i < length d.entries
    → ((q : ℕ) → q < p → get_or h.at q 0 < length d.entries)
    → IsOrSettled g (n ∷ i ∷ get_or h.at p 0 ∷ []) → AreThirds d g taken n i h (p + 1)
thirds_more d f g taken n i h p a e l m w s =
    let k : length d.entries ≤ length f.entries = grown_longer d f a.grown in
    record {
      grown = grown_on d f g a.grown e;
      two = chosen_stays f g (n ∷ i ∷ []) e (omega arith, (omega arith, tt)) a.two;
      threes = below_more
          (λ q. IsMarked taken (get_or h.at q 0) → IsOrSettled g (n ∷ i ∷ get_or h.at q 0 ∷ [])) p
          (λ q b o. let z : get_or h.at q 0 < length d.entries = w q b in chosen_stays f g
          (n ∷ i ∷ get_or h.at q 0 ∷ []) e (omega arith, (omega arith, (omega arith, tt))) (a.threes q b o)) (λ o. s);
    }

pub thirds_none : (d f : StoreData) (taken : List Bool) (n i : ℕ) (h : Held) (p : ℕ)
    → AreThirds d f taken n i h p → ¬ (IsMarked taken (get_or h.at p 0))
    → AreThirds d f taken n i h (p + 1)
thirds_none d f taken n i h p a w = record {
  grown = a.grown;
  two = a.two;
  threes = below_more
      (λ q. IsMarked taken (get_or h.at q 0) → IsOrSettled f (n ∷ i ∷ get_or h.at q 0 ∷ [])) p
      (λ q b o. a.threes q b o) (λ o. absurd (w o));
}

pub chosen_two : (d f : StoreData) (taken : List Bool) (n x y : ℕ) (h : Held)
    → h ≡ held_of (numbers_of d Semi x y) → Extends d f → n < length d.entries → IsOfPair d n x y
    → AreChosen f taken n h h.count
    → (i : ℕ) → i < length d.entries → IsMarked taken i → IsOrSettled f (n ∷ i ∷ [])
chosen_two d f taken n x y h e g l o done i m t_i ways v w at r =
    let t = of_two f.entries n i ways at in
    let s : OrRule (t.0 ∷ t.1 ∷ []) v w = subst (λ z. OrRule z v w) t.2 r in
    let u = two_of t.0 t.1 v w s in
    let a = entry_was d f n t.0 g l t.3 in
    let b = entry_was d f i t.1 g m t.4 in
    let p = o t.0 a in
    let q = like_first t.0 t.1 x y v w u.first_pair u.second_pair p.0 p.1 in
    let z = held_has d Semi x y i h t.1 e b u.second_kind q.0 q.1 in
    subst (λ k. IsOrSettled f (n ∷ k ∷ [])) z.2
    (done.twos z.0 z.1 (subst (λ k. IsMarked taken k) (sym z.2) t_i)) ways v w at r

pub chosen_three : (d f : StoreData) (taken : List Bool) (n x y : ℕ) (h : Held)
    → h ≡ held_of (numbers_of d Semi x y) → Extends d f → n < length d.entries → IsOfPair d n x y
    → AreChosen f taken n h h.count
    → (i j : ℕ) → i < length d.entries → j < length d.entries → IsMarked taken i → IsMarked taken j
    → IsOrSettled f (n ∷ i ∷ j ∷ [])
chosen_three d f taken n x y h e g l o done i j m k t_i t_j ways v w at r =
    let t = of_three f.entries n i j ways at in
    let s : OrRule (t.0 ∷ t.1 ∷ t.2 ∷ []) v w = subst (λ z. OrRule z v w) t.3 r in
    let u = three_of t.0 t.1 t.2 v w s in
    let a = entry_was d f n t.0 g l t.4 in
    let b = entry_was d f i t.1 g m t.5 in
    let c = entry_was d f j t.2 g k t.6 in
    let p = o t.0 a in
    let q = like_first t.0 t.1 x y v w u.first_pair u.second_pair p.0 p.1 in
    let z = like_first t.0 t.2 x y v w u.first_pair u.third_pair p.0 p.1 in
    let b_at = held_has d Semi x y i h t.1 e b u.second_kind q.0 q.1 in
    let c_at = held_has d Semi x y j h t.2 e c u.third_kind z.0 z.1 in
    let b_in : IsMarked taken (get_or h.at b_at.0 0)
    = subst (λ p. IsMarked taken p) (sym b_at.2) t_i in
    let c_in : IsMarked taken (get_or h.at c_at.0 0)
    = subst (λ p. IsMarked taken p) (sym c_at.2) t_j in
    subst (λ (z : List Entry). SettlesOr f z v w) (sym t.3) (elim (cases_order b_at.0 c_at.0) [
      | inl same ↦
          let ij : i ≡ j = sym b_at.2 ∙ (ap (λ p. get_or h.at p 0) same ∙ c_at.2) in
          let bc : t.1 ≡ t.2
          = same_Some t.1 t.2 (sym t.5 ∙ (ap (λ p. slice_get f.entries p) ij ∙ t.6)) in
          subst (λ (z : Entry). SettlesOr f (t.0 ∷ t.1 ∷ z ∷ []) v w) bc
          (way_twice f t.0 t.1 v w
          (subst (λ p. IsOrSettled f (n ∷ p ∷ [])) b_at.2 (done.twos b_at.0 b_at.1 b_in) (t.0 ∷ t.1 ∷ []) v w (at_two f.entries n i t.0 t.1 t.4 t.5)))
      | inr other ↦ elim other [
        | inl less ↦ swapped_last f t.0 t.1 t.2 v w
            (subst (λ p. IsOrSettled f (n ∷ p ∷ i ∷ [])) c_at.2
            (subst (λ p. IsOrSettled f (n ∷ get_or h.at c_at.0 0 ∷ p ∷ [])) b_at.2 (done.threes c_at.0 b_at.0 c_at.1 less c_in b_in))
            (t.0 ∷ t.2 ∷ t.1 ∷ []) v w (at_three f.entries n j i t.0 t.2 t.1 t.4 t.6 t.5))
        | inr more ↦ subst (λ p. IsOrSettled f (n ∷ p ∷ j ∷ [])) b_at.2
            (subst (λ p. IsOrSettled f (n ∷ get_or h.at b_at.0 0 ∷ p ∷ [])) c_at.2 (done.threes b_at.0 c_at.0 b_at.1 more b_in c_in))
            (t.0 ∷ t.1 ∷ t.2 ∷ []) v w (at_three f.entries n i j t.0 t.1 t.2 t.4 t.5 t.6)
      ]
    ]) r

-- ---- entry n with all entries

pub kinds_apart : (k : Kind) → k ≡ Full → k ≡ Semi → ⊥
kinds_apart k h g = absurd (cc)

pub middle_of : (a : Entry) (x u : ℕ) → IsBetween a x u → (u ≡ a.x) ⊎ (u ≡ a.y)
middle_of a x u h
    = elim (cases_lt x u) [ inl l ↦ inr (omega (arith, h.1)) | inr l ↦ inl (omega (arith, h.0)) ]

pub combined_full : (d f : StoreData) (taken : List Bool) (lists : List (List ℕ)) (n : ℕ)
    (a : Entry) → Extends d f → n < length d.entries → slice_get d.entries n ≡ Some a
    → a.kind ≡ Full
    → AreListed d taken lists → ((i : ℕ) → Lists lists a.x i → IsAndSettledOver f n i a.x)
    → ((i : ℕ) → Lists lists a.y i → IsAndSettledOver f n i a.y)
    → IsCombined f (length d.entries) taken n
combined_full d f taken lists n a g l h k all over_x over_y = record {
  ands = λ i m t b c x u y at r z.
      let q : b ≡ a
      = same_Some b a (sym (at_first f.entries n i b c at) ∙ entry_stays d f n a g h) in
      let s : Lists lists u i
      = all.listed i y u c (entry_was d f i c g m (at_second f.entries n i b c at))
      (record { kind = r.second_kind; pair = turned_pair c u y r.chain.second }) t in
      elim (middle_of a x u (subst (λ (v : Entry). IsBetween v x u) q r.chain.first)) [
        | inl p ↦ subst (λ v. IsAndSettledOver f n i v) (sym p)
            (over_x i (subst (λ v. Lists lists v i) p s)) b c x y at r z
        | inr p ↦ subst (λ v. IsAndSettledOver f n i v) (sym p)
            (over_y i (subst (λ v. Lists lists v i) p s)) b c x y at r z
      ];
  twos = λ i m t ways x y at r. absurd
      (no_way (n ∷ i ∷ []) ways x y (of_two f.entries n i ways at).0 (of_two f.entries n i ways at).3 (first_two i ways at) r);
  threes = λ i j m o s t ways x y at r. absurd
      (no_way (n ∷ i ∷ j ∷ []) ways x y (of_three f.entries n i j ways at).0 (of_three f.entries n i j ways at).4 (first_three i j ways at) r);
}
  where
    no_way : (numbers : List ℕ) (ways : List Entry) (x y : ℕ) (b : Entry)
        → slice_get f.entries n ≡ Some b → ((rest : List Entry) × (ways ≡ b ∷ rest))
        → OrRule ways x y → ⊥
    no_way numbers ways x y b s w r =
        let q : b ≡ a = same_Some b a (sym s ∙ entry_stays d f n a g h) in
        kinds_apart a.kind k
        (subst (λ (v : Entry). v.kind ≡ Semi) q (All-head (λ (v : Entry). v.kind
        ≡ Semi) b w.0 (subst (λ z. All (λ (v : Entry). v.kind ≡ Semi) z) w.1 r.kinds)))

    first_two : (i : ℕ) (ways : List Entry) (at : AreAt f.entries (n ∷ i ∷ []) ways)
        → (rest : List Entry) × (ways ≡ (of_two f.entries n i ways at).0 ∷ rest)
    first_two i ways at = let t = of_two f.entries n i ways at in (t.1 ∷ [], t.2)

    first_three : (i j : ℕ) (ways : List Entry) (at : AreAt f.entries (n ∷ i ∷ j ∷ []) ways)
        → (rest : List Entry) × (ways ≡ (of_three f.entries n i j ways at).0 ∷ rest)
    first_three i j ways at = let t = of_three f.entries n i j ways at in (t.1 ∷ t.2 ∷ [], t.3)

pub combined_semi : (d f : StoreData) (taken : List Bool) (n : ℕ) (a : Entry) → Extends d f
    → n < length d.entries → slice_get d.entries n ≡ Some a → a.kind ≡ Semi
    → ((i : ℕ) → i < length d.entries → IsMarked taken i → IsOrSettled f (n ∷ i ∷ []))
    → ((i j : ℕ) → i < length d.entries → j < length d.entries → IsMarked taken i → IsMarked taken j
    → IsOrSettled f (n ∷ i ∷ j ∷ [])) → IsCombined f (length d.entries) taken n
combined_semi d f taken n a g l h k twos threes = record {
  ands = λ i m t b c x u y at r z.
      let q : b ≡ a
      = same_Some b a (sym (at_first f.entries n i b c at) ∙ entry_stays d f n a g h) in
      absurd (kinds_apart a.kind (subst (λ (v : Entry). v.kind ≡ Full) q r.first_kind) k);
  twos = twos;
  threes = threes;
}

-- ---- entry n with itself

-- a semi entry has a cell in its carrier
pub semi_has : (e : PlayerBoard) (entries : List Entry) (a : Entry) (cause : Cause)
    → FollowsBy e entries a cause → a.kind ≡ Semi → (k : ℕ) × (has a.carrier k ≡ true)
semi_has e entries a Adjacent (r, k, c) s = absurd (kinds_apart a.kind k s)
semi_has e entries a (AndGroup i j) (p, q, x, u, y, at, r, g, b, k, c) s
    = absurd (kinds_apart a.kind k s)
semi_has e entries a (AndEmpty i j) (p, q, x, u, y, m, at, r, g, b, k, c) s
    = (m, subst (λ v. has v m ≡ true) (sym c) (with_cell-here (both_of p q) m))
semi_has e entries a (Or numbers count) (ways, at, r, k, c) s = absurd (kinds_apart a.kind k s)

self_and : (f : StoreData) (n : ℕ) → IsAndSettled f n n
self_and f n a b x u y at r m =
    let q : a ≡ b
    = same_Some a b (sym (at_first f.entries n n a b at) ∙ at_second f.entries n n a b at) in
    absurd (r.chain.ends (same_end b x y u (subst (λ (v : Entry). IsBetween v x u) q r.chain.first) (turned_pair b u y r.chain.second)))

self_two : (f : StoreData) (n : ℕ) → IsSound f → IsOrSettled f (n ∷ n ∷ [])
self_two f n s ways x y at r =
    let t = of_two f.entries n n ways at in
    let u = two_of t.0 t.1 x y (subst (λ z. OrRule z x y) t.2 r) in
    let q : t.0 ≡ t.1 = same_Some t.0 t.1 (sym t.3 ∙ t.4) in
    let k = semi_has f.elements (take n f.entries) t.0 t.0.cause
    (s.follows n t.0 t.3) u.first_kind in
    absurd (u.free k.0 k.1 (subst (λ (v : Entry). has v.carrier k.0 ≡ true) q k.1))

self_three : (f : StoreData) (n : ℕ) → IsSound f → IsOrSettled f (n ∷ n ∷ n ∷ [])
self_three f n s ways x y at r =
    let t = of_three f.entries n n n ways at in
    let u = three_of t.0 t.1 t.2 x y (subst (λ z. OrRule z x y) t.3 r) in
    let p : t.0 ≡ t.1 = same_Some t.0 t.1 (sym t.4 ∙ t.5) in
    let q : t.0 ≡ t.2 = same_Some t.0 t.2 (sym t.4 ∙ t.6) in
    let k = semi_has f.elements (take n f.entries) t.0 t.0.cause
    (s.follows n t.0 t.4) u.first_kind in
    absurd (u.free k.0 k.1 (subst (λ (v : Entry). has v.carrier k.0 ≡ true) p k.1) (subst (λ (v : Entry). has v.carrier k.0 ≡ true) q k.1))

self_first : (f : StoreData) (n j : ℕ) → IsOrSettled f (n ∷ j ∷ []) → IsOrSettled f (n ∷ n ∷ j ∷ [])
self_first f n j h ways x y at =
    let t = of_three f.entries n n j ways at in
    let q : t.0 ≡ t.1 = same_Some t.0 t.1 (sym t.4 ∙ t.5) in
    subst (λ z. SettlesOr f z x y) (sym t.3)
    (subst (λ (v : Entry). SettlesOr f (t.0 ∷ v ∷ t.2 ∷ []) x y) q
    (first_twice f t.0 t.2 x y (h (t.0 ∷ t.2 ∷ []) x y (at_two f.entries n j t.0 t.2 t.4 t.6))))

self_last : (f : StoreData) (n i : ℕ) → IsOrSettled f (n ∷ i ∷ []) → IsOrSettled f (n ∷ i ∷ n ∷ [])
self_last f n i h ways x y at =
    let t = of_three f.entries n i n ways at in
    let q : t.0 ≡ t.2 = same_Some t.0 t.2 (sym t.4 ∙ t.6) in
    subst (λ z. SettlesOr f z x y) (sym t.3)
    (subst (λ (v : Entry). SettlesOr f (t.0 ∷ t.1 ∷ v ∷ []) x y) q
    (first_again f t.0 t.1 x y (h (t.0 ∷ t.1 ∷ []) x y (at_two f.entries n i t.0 t.1 t.4 t.5))))

-- the marks with that of entry n too
pub combined_itself : (f : StoreData) (m : ℕ) (taken next : List Bool) (n : ℕ) → IsSound f
    → IsGrown taken next → IsCombined f m taken n → IsCombined f m (set next n true) n
combined_itself f m taken next n s g c = record {
  ands = λ i l k. elim (was i k) [ inl e ↦ subst (λ v. IsAndSettled f n v) (sym e) (self_and f n) | inr o ↦ c.ands i l o ];
  twos = λ i l k. elim (was i k) [ inl e ↦ subst (λ v. IsOrSettled f (n ∷ v ∷ [])) (sym e) (self_two f n s) | inr o ↦ c.twos i l o ];
  threes = λ i j l o k t. elim (was i k) [
    | inl e ↦ subst (λ v. IsOrSettled f (n ∷ v ∷ j ∷ [])) (sym e) (elim (was j t) [
      | inl h ↦ subst (λ v. IsOrSettled f (n ∷ n ∷ v ∷ [])) (sym h) (self_three f n s)
      | inr h ↦ self_first f n j (c.twos j o h)
    ])
    | inr e ↦ elim (was j t) [
      | inl h ↦ subst (λ v. IsOrSettled f (n ∷ i ∷ v ∷ [])) (sym h) (self_last f n i (c.twos i l e))
      | inr h ↦ c.threes i j l o e h
    ]
  ];
}
  where
    was : (i : ℕ) → IsMarked (set next n true) i → (i ≡ n) ⊎ IsMarked taken i
    was i k = elim (cases_eq i n) [ inl e ↦ inl e | inr e ↦ inr (sym (g i) ∙ (sym (get_or-set_other next n i true false e) ∙ k)) ]

-- ---- an entry that is taken

-- two entries in the other order
and_back : (d : StoreData) (i j : ℕ) → IsAndSettled d i j → IsAndSettled d j i
and_back d i j h a b x u y at
    = turned_and d a b x u y
    (h b a y u x (at_two d.entries i j b a (at_second d.entries j i a b at) (at_first d.entries j i a b at)))

-- the second of two ways first
two_back : (d : StoreData) (i j : ℕ) → IsOrSettled d (i ∷ j ∷ []) → IsOrSettled d (j ∷ i ∷ [])
two_back d i j h ways x y at =
    let t = of_two d.entries j i ways at in
    subst (λ z. SettlesOr d z x y) (sym t.2)
    (swapped_two d t.0 t.1 x y (h (t.1 ∷ t.0 ∷ []) x y (at_two d.entries i j t.1 t.0 t.4 t.3)))

-- the first of three ways second
first_back : (d : StoreData) (i j k : ℕ) → IsOrSettled d (i ∷ j ∷ k ∷ [])
    → IsOrSettled d (j ∷ i ∷ k ∷ [])
first_back d i j k h ways x y at =
    let t = of_three d.entries j i k ways at in
    subst (λ z. SettlesOr d z x y) (sym t.3)
    (swapped_first d t.0 t.1 t.2 x y (h (t.1 ∷ t.0 ∷ t.2 ∷ []) x y (at_three d.entries i j k t.1 t.0 t.2 t.5 t.4 t.6)))

-- the first of three ways last
first_last : (d : StoreData) (i j k : ℕ) → IsOrSettled d (i ∷ j ∷ k ∷ [])
    → IsOrSettled d (j ∷ k ∷ i ∷ [])
first_last d i j k h ways x y at =
    let t = of_three d.entries j k i ways at in
    subst (λ z. SettlesOr d z x y) (sym t.3)
    (last_first d t.0 t.1 t.2 x y (h (t.2 ∷ t.0 ∷ t.1 ∷ []) x y (at_three d.entries i j k t.2 t.0 t.1 t.6 t.4 t.5)))

-- while all entries wait
pub none_taken : (d : StoreData) (waiting : List ℕ)
    → ((i : ℕ) → i < length d.entries → Contains waiting i) → AreTaken d waiting
none_taken d waiting h = record {
  ands = λ i j t o. absurd (t.1 (h i t.0));
  twos = λ i j t o. absurd (t.1 (h i t.0));
  threes = λ i j k t o p. absurd (t.1 (h i t.0));
}

-- the entries that do not wait, with entry n, which was taken and combined, and those that it gave
pub one_taken : (d f : StoreData) (taken : List Bool) (v w z : List ℕ) (n : ℕ) → AreTaken d v
    → IsWith w n v → n < length d.entries → Extends d f → AreMarked d taken w
    → IsCombined f (length d.entries) taken n
    → IsWithRange w z (length d.entries) (length f.entries) → AreTaken f z
one_taken d f taken v w z n t o l g k c q = record {
  ands = λ i j h r. elim (was i h) [
    | inl e ↦ subst (λ p. IsAndSettled f p j) (sym e) (c.ands j (below j r) (marked j r))
    | inr a ↦ elim (was j r) [
      | inl e ↦ subst (λ p. IsAndSettled f i p) (sym e) (and_back f n i (c.ands i a.0 (marked i h)))
      | inr b ↦ joined_stays d f i j g a.0 b.0 (t.ands i j a b)
    ]
  ];
  twos = λ i j h r. elim (was i h) [
    | inl e ↦ subst (λ p. IsOrSettled f (p ∷ j ∷ [])) (sym e) (c.twos j (below j r) (marked j r))
    | inr a ↦ elim (was j r) [
      | inl e ↦ subst (λ p. IsOrSettled f (i ∷ p ∷ [])) (sym e)
          (two_back f n i (c.twos i a.0 (marked i h)))
      | inr b ↦ chosen_stays d f (i ∷ j ∷ []) g (a.0, (b.0, tt)) (t.twos i j a b)
    ]
  ];
  threes = λ i j p h m r. elim (was i h) [
    | inl e ↦ subst (λ v. IsOrSettled f (v ∷ j ∷ p ∷ [])) (sym e)
        (c.threes j p (below j m) (below p r) (marked j m) (marked p r))
    | inr a ↦ elim (was j m) [
      | inl e ↦ subst (λ v. IsOrSettled f (i ∷ v ∷ p ∷ [])) (sym e)
          (first_back f n i p (c.threes i p a.0 (below p r) (marked i h) (marked p r)))
      | inr b ↦ elim (was p r) [
        | inl e ↦ subst (λ v. IsOrSettled f (i ∷ j ∷ v ∷ [])) (sym e)
            (first_last f n i j (c.threes i j a.0 b.0 (marked i h) (marked j m)))
        | inr s ↦ chosen_stays d f (i ∷ j ∷ p ∷ []) g (a.0, (b.0, (s.0, tt))) (t.threes i j p a b s)
      ]
    ]
  ];
}
  where
    below : (i : ℕ) → IsTaken f z i → i < length d.entries
    below i h = elim (cases_lt i (length d.entries)) [ inl m ↦ m | inr m ↦ absurd (h.1 (q.added i m h.0)) ]

    marked : (i : ℕ) → IsTaken f z i → IsMarked taken i
    marked i h = elim (cases_Bool (get_or taken i false)) [ inl m ↦ m | inr m ↦ absurd (h.1 (q.kept i (k i (below i h) m))) ]

    was : (i : ℕ) → IsTaken f z i → (i ≡ n) ⊎ IsTaken d v i
    was i h = elim (cases_eq i n) [ inl e ↦ inl e | inr m ↦ inr (below i h, λ b. elim (with_cases w n v i o b) [ inl e ↦ m e | inr r ↦ h.1 (q.kept i r) ]) ]

-- one mark more, which is false
pub marks_push : (v w : List Bool) → IsGrown v w → IsGrown v (w ++ false ∷ [])
marks_push v w g i = pushed w i ∙ g i
  where
    pushed : (w : List Bool) (i : ℕ) → get_or (w ++ false ∷ []) i false ≡ get_or w i false
    pushed [] zero = refl
    pushed [] (suc i) = refl
    pushed (b ∷ w) zero = refl
    pushed (b ∷ w) (suc i) = pushed w i

pub marked_grown : (d : StoreData) (taken next : List Bool) (v : List ℕ) → AreMarked d taken v
    → IsGrown taken next → AreMarked d next v
marked_grown d taken next v m g i l e = m i l (sym (g i) ∙ e)

-- entry n was taken out and marked, and those that came wait
pub marked_more : (d f : StoreData) (taken : List Bool) (v w z : List ℕ) (n : ℕ)
    → AreMarked d taken v → IsWith w n v → n < length taken
    → IsWithRange w z (length d.entries) (length f.entries)
    → (AreMarked d (set taken n true) w) × AreMarked f (set taken n true) z
marked_more d f taken v w z n m o l q
    = (here, λ i b e. elim (cases_lt i (length d.entries)) [ inl k ↦ q.kept i (here i k e) | inr k ↦ q.added i k b ])
  where
    here : AreMarked d (set taken n true) w
    here i b e = elim (cases_eq i n) [
      | inl s ↦ absurd
          (both_ways true (sym (ap (λ j. get_or (set taken n true) j false) s ∙ get_or-set_same taken n true false l) ∙ e) refl)
      | inr s ↦ elim (with_cases w n v i o (m i b (sym (get_or-set_other taken n i true false s) ∙ e))) [ inl t ↦ absurd (s t) | inr t ↦ t ]
    ]

-- ---- the end

pub all_taken : (d : StoreData) (waiting : List ℕ) → AreTaken d waiting → waiting ≡ []
    → AreNearBelow d (element_count d.elements) → IsRuleClosed d
all_taken d waiting t e near = record {
  near = near;
  ands = λ a b x u y (i, h) (j, g). t.ands i j (taken i a h) (taken j b g) a b x u y
      (at_two d.entries i j a b h g);
  ors = λ ways x y all r. closed_or ways x y all r r;
}
  where
    taken : (i : ℕ) (a : Entry) → slice_get d.entries i ≡ Some a → IsTaken d waiting i
    taken i a h = (slice_get_within d.entries i a h, λ k. contains_none i (subst (λ v. Contains v i) e k))

    closed_two : (a b : Entry) (x y : ℕ) → IsKept d a → IsKept d b → SettlesOr d (a ∷ b ∷ []) x y
    closed_two a b x y (i, h) (j, g) = t.twos i j (taken i a h) (taken j b g) (a ∷ b ∷ []) x y
        (at_two d.entries i j a b h g)

    closed_three : (a b c : Entry) (x y : ℕ) → IsKept d a → IsKept d b → IsKept d c
        → SettlesOr d (a ∷ b ∷ c ∷ []) x y
    closed_three a b c x y (i, h) (j, g) (k, f)
        = t.threes i j k (taken i a h) (taken j b g) (taken k c f) (a ∷ b ∷ c ∷ []) x y
        (at_three d.entries i j k a b c h g f)

    closed_or : (ways : List Entry) (x y : ℕ) → All (IsKept d) ways → OrRule ways x y
        → SettlesOr d ways x y
    closed_or [] x y all r
        = elim r.number [ inl h ↦ absurd (omega arith) | inr h ↦ absurd (omega arith) ]
    closed_or (a ∷ []) x y all r
        = elim r.number [ inl h ↦ absurd (omega arith) | inr h ↦ absurd (omega arith) ]
    closed_or (a ∷ b ∷ []) x y all r = closed_two a b x y (All-head (IsKept d) a (b ∷ []) all)
        (second_of (IsKept d) a b [] all)
    closed_or (a ∷ b ∷ c ∷ []) x y all r
        = closed_three a b c x y (All-head (IsKept d) a (b ∷ c ∷ []) all)
        (second_of (IsKept d) a b (c ∷ []) all) (third_of (IsKept d) a b c [] all)
    closed_or (a ∷ b ∷ c ∷ f ∷ ways) x y all r
        = elim r.number [ inl h ↦ absurd (omega arith) | inr h ↦ absurd (omega arith) ]

-- ---- for the loops

pub within_grown : (d f : StoreData) (kind : Kind) (x y : ℕ) (h : Held) (p : ℕ)
    → h ≡ held_of (numbers_of d kind x y) → Extends d f → p < h.count
    → get_or h.at p 0 < length f.entries
within_grown d f kind x y h p e g l =
    let a : get_or h.at p 0 < length d.entries = held_within d kind x y h p e l in
    let b : length d.entries ≤ length f.entries = grown_longer d f g in omega arith

pub number_grown : (d f : StoreData) (n : ℕ) → Extends d f → n < length d.entries
    → n < length f.entries
number_grown d f n g l
    = let b : length d.entries ≤ length f.entries = grown_longer d f g in omega arith
