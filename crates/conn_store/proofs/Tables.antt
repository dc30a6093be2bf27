-- The tables of a store's index.
use Rattle.std.proofs.Common.{◌≡◌, ℕ, ◌+◌, ◌-◌, ◌*◌, ◌<◌, ◌≤◌, ◌⊎◌, ◌==◌, ◌&&◌, zero, suc, Bool}
use Rattle.std.proofs.Common.{true, false, List, [], ◌∷◌, ◌++◌, length, replicate, get_or, set}
use Rattle.std.proofs.Common.{take, Some, All, refl, sym, ◌∙◌, ap, subst, arith, inl, inr, IsTrue}
use Rattle.std.proofs.Common.{◌↔◌, length-append}
use Rattle.std.specs.List.{slice_get}
use Rattle.std.proofs.lemmas.Bool.{both_ways, cases_Bool, cases_eq, false_from_ne_true, and_left}
use Rattle.std.proofs.lemmas.Bool.{and_parts, and_from, eqb-true, eq-eqb}
use Rattle.std.proofs.Math.Seq.{take-append_seam}
use Rattle.std.proofs.lemmas.Option.{same_Some, slice_get_within}
use Rattle.std.proofs.lemmas.List.{append-nil, get_or-set_same, get_or-set_other, get_or-replicate}
use Rattle.std.proofs.lemmas.List.{length-replicate, length-set, take-append-le, get_or_append_left}
use Rattle.std.proofs.lemmas.List.{replicate-append-replicate, take_all}
use Rattle.std.proofs.lemmas.List.Elements.{All-replicate, All-set}
use Rattle.std.proofs.lemmas.List.Sums.{sum_by-set, sum_by-le}
use Rattle.std.proofs.lemmas.List.Folds.{sum_by-replicate}
use Rattle.hex_cells.specs.declared.colours.Colour.{Colour}
use Rattle.hex_board.specs.Elements.{PlayerBoard, element_count}
use Rattle.hex_board.specs.Positions.{Position, Within, stones_of}
use Rattle.conn_store.specs.Entries.{IsValid}
use Rattle.conn_store.specs.Rules.{FollowsFrom}
use Rattle.conn_store.specs.Index.{AnyInside, IsStored, IsTable, number_of_pair, pairs_among}
use Rattle.conn_store.specs.Index.{total_of}
use Rattle.conn_store.specs.Stores.{AreFew, IsCovered, IsPairFull, IsSound, StoreData, held_of}
use Rattle.conn_store.specs.Stores.{is_of, most_of, numbers_from, numbers_of, same_kind, with_entry}
use Rattle.conn_store.specs.declared.entries.Entry.{Entry}
use Rattle.conn_store.specs.declared.entries.Held.{Held}
use Rattle.conn_store.specs.declared.entries.Kind.{Kind}
use Rattle.conn_store.specs.declared.entries.Kind.TheVariants.{Full, Semi}
use Rattle.conn_store.specs.declared.entries.TheConstants.{MOST_ENTRIES, MOST_FULL, MOST_SEMI}
use Rattle.conn_store.proofs.Numbers.{counted_full, full_counted, held_more, numbers_all}
use Rattle.conn_store.proofs.Numbers.{numbers_in, numbers_push, one_if}
use Rattle.conn_store.proofs.Pairs.{pair_below, pairs_few, same_pair}

-- ---- no entries

pub empty_table : (e : PlayerBoard) (kind : Kind)
    → IsTable (record { elements = e; entries = [] }) kind
    (replicate (pairs_among (element_count e)) (held_of []))
empty_table e kind = record {
  pairs = length-replicate (pairs_among (element_count e)) (held_of []);
  numbers = λ x y h l m. get_or-replicate (pairs_among (element_count e)) (number_of_pair x y)
      (held_of []) h (pair_below x y (element_count e) l m);
  few = All-replicate (λ (h : Held). h.count ≤ most_of kind) (pairs_among (element_count e))
      (held_of []) (zero_most kind);
}
  where
    zero_most : (kind : Kind) → 0 ≤ most_of kind
    zero_most kind = omega arith

-- a table that was cut, filled and made longer
pub refilled : (n m : ℕ) (h : Held) (xs ys : List Held) → xs ≡ replicate m h → m ≤ n
    → ys ≡ take n xs ++ replicate (n - m) h → ys ≡ replicate n h
refilled n m h xs ys e l g =
    let k : length xs ≡ m = ap length e ∙ length-replicate m h in
    let t : take n xs ≡ replicate m h = take_all n xs (omega arith) ∙ e in
    let s : m + (n - m) ≡ n = omega arith in
    g ∙ (ap (λ v. v ++ replicate (n - m) h) t ∙ (replicate-append-replicate m (n - m) h ∙ ap (λ v. replicate v h) s))

-- ---- one entry more

-- the entry is of its own kind and pair
pub kinds_match : (kind : Kind) → same_kind kind kind ≡ true
kinds_match Full = refl
kinds_match Semi = refl

pub kinds_are : (j k : Kind) → same_kind j k ≡ true → j ≡ k
kinds_are Full Full h = refl
kinds_are Full Semi h = absurd (cc)
kinds_are Semi Full h = absurd (cc)
kinds_are Semi Semi h = refl

pub of_itself : (a : Entry) → is_of a.kind a.x a.y a ≡ true
of_itself a = and_from (same_kind a.kind a.kind) (a.x == a.x && a.y == a.y) (kinds_match a.kind)
    (and_from (a.x == a.x) (a.y == a.y) (eq-eqb a.x a.x refl) (eq-eqb a.y a.y refl))

pub of_means : (kind : Kind) (x y : ℕ) (a : Entry) → is_of kind x y a ≡ true
    → (a.kind ≡ kind) × (a.x ≡ x) × (a.y ≡ y)
of_means kind x y a h =
    let t = and_parts (same_kind a.kind kind) (a.x == x && a.y == y) h in
    let u = and_parts (a.x == x) (a.y == y) t.1 in
    (kinds_are a.kind kind t.0, eqb-true a.x x u.0, eqb-true a.y y u.1)

pub numbers_more : (d : StoreData) (a : Entry) (kind : Kind) (x y : ℕ) → is_of kind x y a ≡ true
    → numbers_of (with_entry d a) kind x y ≡ numbers_of d kind x y ++ length d.entries ∷ []
numbers_more d a kind x y h =
    numbers_push 0 kind x y d.entries a
    ∙ (ap (λ b. numbers_of d kind x y ++ one_if b (0 + length d.entries)) h ∙ ap (λ n. numbers_of d kind x y ++ n ∷ []) (plain (length d.entries)))
  where
    plain : (n : ℕ) → 0 + n ≡ n
    plain n = omega arith

pub numbers_stay : (d : StoreData) (a : Entry) (kind : Kind) (x y : ℕ) → is_of kind x y a ≡ false
    → numbers_of (with_entry d a) kind x y ≡ numbers_of d kind x y
numbers_stay d a kind x y h = numbers_push 0 kind x y d.entries a
    ∙ (ap (λ b. numbers_of d kind x y ++ one_if b (0 + length d.entries)) h ∙ append-nil (numbers_of d kind x y))

-- the table of the other kind stays
pub table_stays : (d : StoreData) (a : Entry) (kind : Kind) (table : List Held)
    → same_kind a.kind kind ≡ false → IsTable d kind table → IsTable (with_entry d a) kind table
table_stays d a kind table h t = record {
  pairs = t.pairs;
  numbers = λ x y g l m. t.numbers x y g l m
      ∙ ap held_of
      (sym (numbers_stay d a kind x y (and_left (same_kind a.kind kind) (a.x == x && a.y == y) h)));
  few = t.few;
}

-- the numbers of the entry's own pair, with one more
abbrev pub more_held : Held → ℕ → Held
more_held h n = record { count = h.count + 1; at = set h.at h.count n }

six : (kind : Kind) (n : ℕ) → n < most_of kind → n < 6
six Full n l = omega arith
six Semi n l = omega arith

held_after : (numbers : List ℕ) (n : ℕ) (h : Held) → h ≡ held_of numbers → length numbers < 6
    → more_held h n ≡ held_of (numbers ++ n ∷ [])
held_after numbers n h e l = ap (λ (g : Held). more_held g n) e ∙ sym (held_more numbers n l)

-- the pair of the entry alone has its kind and number
apart_of : (kind : Kind) (x y : ℕ) (a : Entry) → (number_of_pair x y ≡ number_of_pair a.x a.y → ⊥)
    → is_of kind x y a ≡ false
apart_of kind x y a n
    = false_from_ne_true (is_of kind x y a)
    (λ h. let t = of_means kind x y a h in n (pair_is x y a.x a.y t.1 t.2))
  where
    pair_is : (x y v w : ℕ) → v ≡ x → w ≡ y → number_of_pair x y ≡ number_of_pair v w
    pair_is x y v w e f = cc

pub table_more : (d : StoreData) (a : Entry) (table : List Held) (h : Held) → a.x < a.y
    → a.y < element_count d.elements → IsTable d a.kind table
    → h ≡ get_or table (number_of_pair a.x a.y) h → h.count < most_of a.kind
    → IsTable (with_entry d a) a.kind
    (set table (number_of_pair a.x a.y) (more_held h (length d.entries)))
table_more d a table h l m t e f = record {
  pairs = length-set table (number_of_pair a.x a.y) (more_held h (length d.entries)) ∙ t.pairs;
  numbers = λ x y g i j. elim (cases_eq (number_of_pair x y) (number_of_pair a.x a.y)) [
    | inl q ↦
        let s = same_pair x y a.x a.y i l q in
        let here : get_or (set table (number_of_pair a.x a.y) (more_held h (length d.entries)))
        (number_of_pair x y) g ≡ more_held h (length d.entries) =
        ap (λ v. get_or (set table (number_of_pair a.x a.y) (more_held h (length d.entries))) v g) q
        ∙ get_or-set_same table (number_of_pair a.x a.y)
        (more_held h (length d.entries)) g within in
        let of : is_of a.kind x y a ≡ true = ap (λ v. is_of a.kind v y a) s.0
        ∙ (ap (λ v. is_of a.kind a.x v a) s.1 ∙ of_itself a) in
        let was : h ≡ held_of (numbers_of d a.kind x y) = e
        ∙ (t.numbers a.x a.y h l m ∙ (ap (λ v. held_of (numbers_of d a.kind v a.y)) (sym s.0) ∙ ap (λ v. held_of (numbers_of d a.kind x v)) (sym s.1))) in
        here ∙ (held_after (numbers_of d a.kind x y) (length d.entries) h was
        (six a.kind (length (numbers_of d a.kind x y)) (subst (λ (v : Held). v.count < most_of a.kind) was f))
        ∙ ap held_of (sym (numbers_more d a a.kind x y of)))
    | inr n ↦ get_or-set_other table (number_of_pair a.x a.y) (number_of_pair x y)
        (more_held h (length d.entries)) g n
        ∙ (t.numbers x y g i j ∙ ap held_of (sym (numbers_stay d a a.kind x y (apart_of a.kind x y a n))))
  ];
  few = All-set (λ (v : Held). v.count ≤ most_of a.kind) table (number_of_pair a.x a.y)
      (more_held h (length d.entries)) (omega arith) t.few;
}
  where
    within : number_of_pair a.x a.y < length table
    within = rw t.pairs (pair_below a.x a.y (element_count d.elements) l m)

-- one number more in all
pub total_more : (table : List Held) (p : ℕ) (h : Held) (n : ℕ) → p < length table
    → h ≡ get_or table p h → total_of (set table p (more_held h n)) ≡ total_of table + 1
total_more table p h n l e =
    let s : total_of
    (set table p (more_held h n)) + (get_or table p h).count ≡ total_of table + (h.count + 1)
    = sum_by-set (λ (v : Held). v.count) table p (more_held h n) h l in
    let f : (get_or table p h).count ≡ h.count = ap (λ (v : Held). v.count) (sym e) in omega arith

pub total_few : (table : List Held) (most : ℕ) → All (λ (v : Held). v.count ≤ most) table
    → total_of table ≤ length table * most
total_few table most f = sum_by-le (λ (v : Held). v.count) most table f

pub few_more : (d : StoreData) (a : Entry) → AreFew d
    → length (numbers_of d a.kind a.x a.y) < most_of a.kind → AreFew (with_entry d a)
few_more d a f l kind x y = elim (cases_Bool (is_of kind x y a)) [
  | inl h ↦
      let t = of_means kind x y a h in
      let e : length (numbers_of (with_entry d a) kind x y) ≡ length (numbers_of d kind x y) + 1
      = ap length (numbers_more d a kind x y h)
      ∙ length-append (numbers_of d kind x y) (length d.entries ∷ []) in
      let g : length (numbers_of d kind x y) < most_of kind = here kind x y t.0 t.1 t.2 in
      omega arith
  | inr h ↦ subst (λ (v : List ℕ). length v ≤ most_of kind) (sym (numbers_stay d a kind x y h))
      (f kind x y)
]
  where
    here : (kind : Kind) (x y : ℕ) → a.kind ≡ kind → a.x ≡ x → a.y ≡ y
        → length (numbers_of d kind x y) < most_of kind
    here kind x y p q r = subst (λ v. length (numbers_of d v x y) < most_of v) p
        (subst (λ v. length (numbers_of d a.kind v y) < most_of a.kind) q (subst (λ v. length (numbers_of d a.kind a.x v) < most_of a.kind) r l))

-- ---- sound entries

pub last_or_before : (entries : List Entry) (a b : Entry) (i : ℕ)
    → slice_get (entries ++ a ∷ []) i ≡ Some b
    → ((i < length entries) × (slice_get entries i ≡ Some b)) ⊎ ((i ≡ length entries) × (b ≡ a))
last_or_before [] a b zero h = inr (refl, cc)
last_or_before [] a b (suc i) h = absurd (cc)
last_or_before (c ∷ entries) a b zero h = inl (omega arith, h)
last_or_before (c ∷ entries) a b (suc i) h = elim (last_or_before entries a b i h) [
  | inl t ↦ inl (omega arith, t.1)
  | inr t ↦ inr (ap suc t.0, t.1)
]

pub sound_more : (d : StoreData) (a : Entry) → IsSound d → IsValid d.elements a
    → FollowsFrom d.elements d.entries a → IsSound (with_entry d a)
sound_more d a s v f = record {
  valid = λ i b h. elim (last_or_before d.entries a b i h) [
    | inl p ↦ s.valid i b p.1
    | inr p ↦ subst (λ w. IsValid d.elements w) (sym p.1) v
  ];
  follows = λ i b h. elim (last_or_before d.entries a b i h) [
    | inl p ↦ let l : i ≤ length d.entries = omega arith in
        subst (λ w. FollowsFrom d.elements w b) (sym (take-append-le i d.entries (a ∷ []) l))
        (s.follows i b p.1)
    | inr p ↦ subst (λ w. FollowsFrom d.elements w b)
        (sym (ap (λ n. take n (d.entries ++ a ∷ [])) p.0 ∙ take-append_seam d.entries (a ∷ [])))
        (subst (λ w. FollowsFrom d.elements d.entries w) (sym p.1) f)
  ];
}

pub nothing_sound : (e : PlayerBoard) → IsSound (record { elements = e; entries = [] })
nothing_sound e = record { valid = λ i a h. absurd (cc); follows = λ i a h. absurd (cc) }

-- ---- what the index says of a carrier

pub number_at : (numbers : List ℕ) (j : ℕ) → j < length numbers
    → get_or (held_of numbers).at j 0 ≡ get_or numbers j 0
number_at numbers j l = get_or_append_left numbers (replicate {A = ℕ} (6 - length numbers) 0) 0 j l

pub at_start : (n i : ℕ) → n ≡ 0 + i → n ≡ i
at_start n i e = omega arith

pub covered_from : (d : StoreData) (kind : Kind) (x y c : ℕ)
    → AnyInside d.entries (held_of (numbers_of d kind x y)) c → IsCovered d kind x y c
covered_from d kind x y c (j, a, l, g, f) =
    let w = numbers_in 0 kind x y d.entries j l in
    let e : get_or (held_of (numbers_of d kind x y)).at j 0 ≡ w.0
    = number_at (numbers_of d kind x y) j l ∙ at_start _ w.0 w.2 in
    let q : a ≡ w.1 = same_Some a w.1 (sym g ∙ (ap (λ v. slice_get d.entries v) e ∙ w.3)) in
    (w.0, a, ap (λ v. slice_get d.entries v) (sym e) ∙ g, ap (λ v. is_of kind x y v) q ∙ w.4, f)

pub covered_in : (d : StoreData) (kind : Kind) (x y c : ℕ) → IsCovered d kind x y c
    → AnyInside d.entries (held_of (numbers_of d kind x y)) c
covered_in d kind x y c (i, a, g, h, f) =
    let w = numbers_all 0 kind x y d.entries i a g h in
    let e : get_or (held_of (numbers_of d kind x y)).at w.0 0 ≡ i
    = number_at (numbers_of d kind x y) w.0 w.1 ∙ (w.2 ∙ plain i) in
    (w.0, a, w.1, ap (λ v. slice_get d.entries v) e ∙ g, f)
  where
    plain : (n : ℕ) → 0 + n ≡ n
    plain n = omega arith

-- each number of the index is one of an entry
pub number_within : (d : StoreData) (kind : Kind) (x y j : ℕ) → j < length (numbers_of d kind x y)
    → get_or (held_of (numbers_of d kind x y)).at j 0 < length d.entries
number_within d kind x y j l =
    let w = numbers_in 0 kind x y d.entries j l in
    let e : get_or (held_of (numbers_of d kind x y)).at j 0 ≡ w.0
    = number_at (numbers_of d kind x y) j l ∙ at_start _ w.0 w.2 in
    let b : w.0 < length d.entries = slice_get_within d.entries w.0 w.1 w.3 in omega arith

-- ---- a whole store

pub pair_within : (d : StoreData) (kind : Kind) (table : List Held) (x y : ℕ) → IsTable d kind table
    → x < y → y < element_count d.elements
    → number_of_pair x y < length table
pair_within d kind table x y t l m = rw t.pairs (pair_below x y (element_count d.elements) l m)

most_in_all : (a b p n : ℕ) → a ≤ p * MOST_FULL → b ≤ p * MOST_SEMI → a + b ≡ n → n ≤ 10 * p
most_in_all a b p n h i e = omega arith

-- the tables bound the entries
pub tables_few : (d : StoreData) (full semi : List Held) (n : ℕ) → IsTable d Full full
    → IsTable d Semi semi → total_of full + total_of semi ≡ n
    → n ≤ 10 * pairs_among (element_count d.elements)
tables_few d full semi n t u e =
    let f : total_of full ≤ pairs_among (element_count d.elements) * MOST_FULL
    = subst (λ v. total_of full ≤ v * MOST_FULL) t.pairs (total_few full MOST_FULL t.few) in
    let g : total_of semi ≤ pairs_among (element_count d.elements) * MOST_SEMI
    = subst (λ v. total_of semi ≤ v * MOST_SEMI) u.pairs (total_few semi MOST_SEMI u.few) in
    most_in_all (total_of full) (total_of semi) (pairs_among (element_count d.elements)) n f g e

pub stored_few : (board : Position) (player : Colour) (d : StoreData) (full semi : List Held)
    (room : ℕ) → IsStored board player d full semi room
    → length d.entries ≤ MOST_ENTRIES
stored_few board player d full semi room s =
    let l : length d.entries ≤ 10 * pairs_among (element_count d.elements)
    = tables_few d full semi (length d.entries) s.full_table s.semi_table s.total in
    let m : pairs_among (element_count d.elements) ≤ 7503
    = pairs_few (element_count d.elements) s.count in omega arith

-- what is read of a table
pub held_here : (d f : StoreData) (kind k : Kind) (table : List Held) (h : Held) (p x y : ℕ)
    → IsTable d kind table → d ≡ f → k ≡ kind → p ≡ number_of_pair x y
    → x < y → y < element_count f.elements → h ≡ get_or table p h → h ≡ held_of (numbers_of f k x y)
held_here d f kind k table h p x y t q r e l m g =
    let n : y < element_count d.elements = subst (λ (v : StoreData). y < element_count v.elements)
    (sym q) m in
    g ∙ (ap (λ v. get_or table v h) e ∙ (t.numbers x y h l n ∙ (ap (λ v. held_of (numbers_of d v x y)) (sym r) ∙ ap (λ v. held_of (numbers_of v k x y)) q)))

pub place_here : (d f : StoreData) (kind : Kind) (table : List Held) (p x y : ℕ)
    → IsTable d kind table → d ≡ f → p ≡ number_of_pair x y
    → x < y → y < element_count f.elements → p < length table
place_here d f kind table p x y t q e l m =
    let n : y < element_count d.elements = subst (λ (v : StoreData). y < element_count v.elements)
    (sym q) m in
    rw e (pair_within d kind table x y t l n)

-- a store without entries
pub new_stored : (board : Position) (player : Colour) (e : PlayerBoard) (entries : List Entry)
    (full semi : List Held) (room n : ℕ)
    → e ≡ record { board = board; player = player } → board.size ≤ 11
    → Within board.size (stones_of board player) → element_count e ≤ 123
    → n ≡ pairs_among (element_count e)
    → entries ≡ [] → full ≡ replicate n (held_of []) → semi ≡ replicate n (held_of [])
    → 10 * n ≤ room
    → IsStored board player (record { elements = e; entries = entries }) full semi room
new_stored board player e entries full semi room n q z w f m i j k r = record {
  same_board = ap (λ (v : PlayerBoard). v.board) q;
  same_player = ap (λ (v : PlayerBoard). v.player) q;
  small = record {
    size = subst (λ (v : PlayerBoard). v.board.size ≤ 11) (sym q) z;
    stones = subst (λ (v : PlayerBoard). Within v.board.size (stones_of v.board v.player)) (sym q) w;
  };
  count = f;
  sound = subst (λ (v : List Entry). IsSound (record { elements = e; entries = v })) (sym i)
      (nothing_sound e);
  few = λ kind x y. subst (λ (v : List Entry). length (numbers_from 0 kind x y v) ≤ most_of kind)
      (sym i) (omega arith);
  full_table = table Full full j;
  semi_table = table Semi semi k;
  total = rw (i, j, k) (omega (arith, none));
  space = omega (arith, m, r);
}
  where
    table : (kind : Kind) (t : List Held) → t ≡ replicate n (held_of [])
        → IsTable (record { elements = e; entries = entries }) kind t
    table kind t h
        = subst (λ (v : List Entry). IsTable (record { elements = e; entries = v }) kind t) (sym i)
        (subst (λ v. IsTable (record { elements = e; entries = [] }) kind v) (sym (h ∙ ap (λ v. replicate v (held_of [])) m)) (empty_table e kind))

    none : total_of (replicate n (held_of [])) ≡ n * 0
    none = sum_by-replicate (λ (v : Held). v.count) n (held_of [])

-- which table is written, and how
abbrev pub Writes : Entry → ℕ → Held → List Held → List Held → List Held → List Held → Type 0
Writes a pair more full semi next_full next_semi =
    ((a.kind ≡ Full) × (next_full ≡ set full pair more) × (next_semi ≡ semi)) ⊎ ((a.kind ≡ Semi) × (next_full ≡ full) × (next_semi ≡ set semi pair more))

both_written : (d : StoreData) (a : Entry) (h : Held) (full semi next_full next_semi : List Held)
    → a.x < a.y → a.y < element_count d.elements
    → IsTable d Full full → IsTable d Semi semi → h ≡ held_of (numbers_of d a.kind a.x a.y)
    → h.count < most_of a.kind
    → Writes a (number_of_pair a.x a.y)
    (more_held h (length d.entries)) full semi next_full next_semi
    → IsTable (with_entry d a) Full next_full × IsTable (with_entry d a) Semi next_semi
    × (total_of next_full + total_of next_semi ≡ total_of full + total_of semi + 1)
both_written d a h full semi next_full next_semi l m t u e f (inl (q, r, s)) =
    let was : h ≡ get_or full (number_of_pair a.x a.y) h = e
    ∙ (ap (λ v. held_of (numbers_of d v a.x a.y)) q ∙ sym (t.numbers a.x a.y h l m)) in
    let more : IsTable (with_entry d a) Full
    (set full (number_of_pair a.x a.y) (more_held h (length d.entries))) =
    subst (λ v. IsTable (with_entry d a) v (set full (number_of_pair a.x a.y) (more_held h (length d.entries)))) q
    (table_more d a full h l m (subst (λ v. IsTable d v full) (sym q) t) was f) in
    let kept : IsTable (with_entry d a) Semi semi
    = table_stays d a Semi semi (ap (λ v. same_kind v Semi) q) u in (
      subst (λ v. IsTable (with_entry d a) Full v) (sym r) more,
      subst (λ v. IsTable (with_entry d a) Semi v) (sym s) kept,
      rw (r, s) (omega (arith, total_more full (number_of_pair a.x a.y) h (length d.entries) (pair_within d Full full a.x a.y t l m) was)),
    )
both_written d a h full semi next_full next_semi l m t u e f (inr (q, r, s)) =
    let was : h ≡ get_or semi (number_of_pair a.x a.y) h = e
    ∙ (ap (λ v. held_of (numbers_of d v a.x a.y)) q ∙ sym (u.numbers a.x a.y h l m)) in
    let more : IsTable (with_entry d a) Semi
    (set semi (number_of_pair a.x a.y) (more_held h (length d.entries))) =
    subst (λ v. IsTable (with_entry d a) v (set semi (number_of_pair a.x a.y) (more_held h (length d.entries)))) q
    (table_more d a semi h l m (subst (λ v. IsTable d v semi) (sym q) u) was f) in
    let kept : IsTable (with_entry d a) Full full
    = table_stays d a Full full (ap (λ v. same_kind v Full) q) t in (
      subst (λ v. IsTable (with_entry d a) Full v) (sym r) kept,
      subst (λ v. IsTable (with_entry d a) Semi v) (sym s) more,
      rw (r, s) (omega (arith, total_more semi (number_of_pair a.x a.y) h (length d.entries) (pair_within d Semi semi a.x a.y u l m) was)),
    )

pub held_count : (h : Held) (numbers : List ℕ) → h ≡ held_of numbers → h.count ≡ length numbers
held_count h numbers e = ap (λ (v : Held). v.count) e

-- there is a place for one number more
pub held_room : (kind : Kind) (h : Held) (numbers : List ℕ) → h ≡ held_of numbers
    → length numbers < most_of kind → h.count < 6
held_room kind h numbers e l
    = six kind h.count (subst (λ n. n < most_of kind) (sym (held_count h numbers e)) l)

-- a store with one entry more
pub stored_more : (board : Position) (player : Colour) (d : StoreData) (full semi : List Held)
    (room : ℕ) (a : Entry) (h : Held) (next_full next_semi : List Held) (next_room : ℕ)
    → IsStored board player d full semi room → IsValid d.elements a
    → FollowsFrom d.elements d.entries a → h ≡ held_of (numbers_of d a.kind a.x a.y)
    → h.count < most_of a.kind
    → Writes a (number_of_pair a.x a.y)
    (more_held h (length d.entries)) full semi next_full next_semi → room ≤ next_room
    → IsStored board player (with_entry d a) next_full next_semi next_room
stored_more board player d full semi room a h next_full next_semi next_room s v f e l w r =
    let b = both_written d a h full semi next_full next_semi v.order v.elements s.full_table s.semi_table e l w in
    let n : length (d.entries ++ a ∷ []) ≡ length d.entries + 1
    = length-append d.entries (a ∷ []) in
    let c : h.count ≡ length (numbers_of d a.kind a.x a.y)
    = held_count h (numbers_of d a.kind a.x a.y) e in
    record {
      same_board = s.same_board;
      same_player = s.same_player;
      small = s.small;
      count = s.count;
      sound = sound_more d a s.sound v f;
      few = few_more d a s.few (rw (← c) l);
      full_table = b.0;
      semi_table = b.1;
      total = omega (arith, b.2, s.total);
      space = omega (arith, s.space);
    }

-- there is room for the entry
pub room_more : (board : Position) (player : Colour) (d : StoreData) (full semi : List Held)
    (room : ℕ) (a : Entry) (h : Held) (next_full next_semi : List Held)
    → IsStored board player d full semi room → IsValid d.elements a
    → h ≡ held_of (numbers_of d a.kind a.x a.y) → h.count < most_of a.kind
    → Writes a (number_of_pair a.x a.y)
    (more_held h (length d.entries)) full semi next_full next_semi → length d.entries < room
room_more board player d full semi room a h next_full next_semi s v e l w =
    let b = both_written d a h full semi next_full next_semi v.order v.elements s.full_table s.semi_table e l w in
    let t : length d.entries + 1 ≤ 10 * pairs_among (element_count d.elements) =
    tables_few (with_entry d a) next_full next_semi (length d.entries + 1) b.0 b.1
    (omega (arith, b.2, s.total)) in
    omega (arith, s.space)

pub few_here : (d f : StoreData) (kind : Kind) (x y : ℕ) (h : Held) → AreFew d → d ≡ f
    → h ≡ held_of (numbers_of f kind x y) → h.count ≤ most_of kind
few_here d f kind x y h few q e =
    let c : h.count ≡ length (numbers_of f kind x y) = held_count h (numbers_of f kind x y) e in
    let l : length (numbers_of f kind x y) ≤ most_of kind
    = subst (λ v. length (numbers_of v kind x y) ≤ most_of kind) q (few kind x y) in omega arith

-- ---- one entry more, or none

-- what the look through the index tells
pub record IsLooked (d : StoreData) (a : Entry) (h : Held) (entries : List Entry)
    (inside : Bool) : Type 0 where
  pub held : h ≡ held_of (numbers_of d a.kind a.x a.y)
  pub few : h.count ≤ most_of a.kind
  pub same_entries : entries ≡ d.entries
  pub answer : IsTrue inside ↔ AnyInside entries h a.carrier

pub looked_out : (d : StoreData) (a : Entry) (h : Held) (entries : List Entry) (inside : Bool)
    → IsLooked d a h entries inside → inside ≡ true → IsCovered d a.kind a.x a.y a.carrier
looked_out d a h entries inside k t = covered_from d a.kind a.x a.y a.carrier
    (subst (λ v. AnyInside d.entries v a.carrier) k.held (subst (λ v. AnyInside v h a.carrier) k.same_entries (k.answer.0 t)))

pub looked_in : (d : StoreData) (a : Entry) (h : Held) (entries : List Entry) (inside : Bool)
    → IsLooked d a h entries inside → inside ≡ false
    → ¬ (IsCovered d a.kind a.x a.y a.carrier)
looked_in d a h entries inside k t g = both_ways inside t (k.answer.1
    (subst (λ v. AnyInside v h a.carrier) (sym k.same_entries)
    (subst (λ v. AnyInside d.entries v a.carrier) (sym k.held) (covered_in d a.kind a.x a.y a.carrier g))))

pub looked_full : (d : StoreData) (a : Entry) (h : Held) (entries : List Entry) (inside : Bool)
    (most : ℕ) → IsLooked d a h entries inside → most ≡ most_of a.kind → h.count ≡ most
    → IsPairFull d a.kind a.x a.y
looked_full d a h entries inside most k e f =
    let c : h.count ≡ length (numbers_of d a.kind a.x a.y)
    = held_count h (numbers_of d a.kind a.x a.y) k.held in
    let l : most_of a.kind ≤ length (numbers_of d a.kind a.x a.y) = omega arith in
    counted_full d a.kind a.x a.y l

pub looked_room : (d : StoreData) (a : Entry) (h : Held) (entries : List Entry) (inside : Bool)
    (most : ℕ) → IsLooked d a h entries inside → most ≡ most_of a.kind
    → (h.count ≡ most → ⊥) → h.count < most_of a.kind
looked_room d a h entries inside most k e f
    = let l : h.count ≤ most_of a.kind = k.few in omega arith

pub looked_not_full : (d : StoreData) (a : Entry) (h : Held) (entries : List Entry) (inside : Bool)
    (most : ℕ) → IsLooked d a h entries inside → most ≡ most_of a.kind
    → (h.count ≡ most → ⊥) → IsPairFull d a.kind a.x a.y → ⊥
looked_not_full d a h entries inside most k e f g =
    let c : h.count ≡ length (numbers_of d a.kind a.x a.y)
    = held_count h (numbers_of d a.kind a.x a.y) k.held in
    let l : h.count < most_of a.kind = looked_room d a h entries inside most k e f in
    let m : most_of a.kind ≤ length (numbers_of d a.kind a.x a.y)
    = full_counted d a.kind a.x a.y g in absurd (omega arith)

-- the numbers of the index are those of entries
pub numbers_here : (d : StoreData) (a : Entry) (h : Held) (entries : List Entry)
    → h ≡ held_of (numbers_of d a.kind a.x a.y) → entries ≡ d.entries
    → (j : ℕ) → j < h.count → get_or h.at j 0 < length entries
numbers_here d a h entries e f j l =
    let c : h.count ≡ length (numbers_of d a.kind a.x a.y)
    = held_count h (numbers_of d a.kind a.x a.y) e in
    let w : get_or (held_of (numbers_of d a.kind a.x a.y)).at j 0 < length d.entries
    = number_within d a.kind a.x a.y j (omega arith) in
    subst (λ (v : Held). get_or v.at j 0 < length entries) (sym e)
    (subst (λ (v : List Entry). get_or (held_of (numbers_of d a.kind a.x a.y)).at j 0 < length v) (sym f) w)
