-- The lists of the full entries that were taken.
use Rattle.std.proofs.Common.{◌≡◌, ℕ, ◌+◌, ◌<◌, ◌≤◌, ◌⊎◌, ◌∷◌, [], ◌++◌, Bool, true, false, List, Some}
use Rattle.std.proofs.Common.{zero, suc, length, get_or, map, set, refl, sym, ◌∙◌, ap, subst, inl}
use Rattle.std.proofs.Common.{inr, arith}
use Rattle.std.specs.List.{Contains, slice_get}
use Rattle.std.proofs.lemmas.Bool.{both_ways, cases_eq, cases_lt}
use Rattle.std.proofs.lemmas.List.{get_or-map, get_or-set_other, get_or-set_same, get_or_past}
use Rattle.std.proofs.lemmas.List.{length-map, length-set, map-set}
use Rattle.std.proofs.lemmas.List.Elements.{Contains-append_left, Contains-push}
use Rattle.std.proofs.lemmas.List.Elements.{Contains-push_cases}
use Rattle.std.proofs.lemmas.Option.{same_Some, slice_get_within}
use Rattle.hex_board.specs.Elements.{element_count}
use Rattle.conn_store.specs.Over.{IsFullOf}
use Rattle.conn_store.specs.Stores.{StoreData}
use Rattle.conn_store.specs.declared.entries.Entry.{Entry}
use Rattle.hsearch.specs.Listed.{AreListed, IsEnlisted, IsListedAt, Lists}
use Rattle.hsearch.specs.Taken.{Extends, IsGrown}
use Rattle.hsearch.proofs.Growth.{entry_was, grown_longer}
use Rattle.hsearch.proofs.Queues.{contains_none}
use Rattle.hsearch.proofs.Steps.{middle_of}

-- ---- one number more

-- a list of the map
pub list_here : {Q : Type 0} (f : Q → List ℕ) (lists : List Q) (u : ℕ) (q d : Q) → u < length lists
    → get_or lists u d ≡ q → f q ≡ get_or (map f lists) u []
list_here f lists u q d l e = sym (get_or-map f lists u d [] l ∙ ap f e)

-- a list was written, with a number more
pub listed_at : {Q : Type 0} (f : Q → List ℕ) (lists : List Q) (u n : ℕ) (q old : Q)
    → u < length lists → get_or lists u old ≡ old → f q ≡ f old ++ n ∷ []
    → IsListedAt (map f lists) u n (map f (set lists u q))
listed_at f lists u n q old l e p = map-set f lists u q
    ∙ ap (λ z. set (map f lists) u z) (p ∙ ap (λ z. z ++ n ∷ []) (list_here f lists u old old l e))

at_count : (v w : List (List ℕ)) (u n : ℕ) → IsListedAt v u n w → length w ≡ length v
at_count v w u n e = ap length e ∙ length-set v u (get_or v u [] ++ n ∷ [])

at_there : (v w : List (List ℕ)) (u n : ℕ) → IsListedAt v u n w → u < length v
    → get_or w u [] ≡ get_or v u [] ++ n ∷ []
at_there v w u n e l = ap (λ z. get_or z u []) e
    ∙ get_or-set_same v u (get_or v u [] ++ n ∷ []) [] l

at_other : (v w : List (List ℕ)) (u n z : ℕ) → IsListedAt v u n w → (z ≡ u → ⊥)
    → get_or w z [] ≡ get_or v z []
at_other v w u n z e m = ap (λ y. get_or y z []) e
    ∙ get_or-set_other v u z (get_or v u [] ++ n ∷ []) [] m

at_kept : (v w : List (List ℕ)) (u n z i : ℕ) → IsListedAt v u n w → u < length v → Lists v z i
    → Lists w z i
at_kept v w u n z i e l c = elim (cases_eq z u) [
  | inl s ↦ subst (λ y. Lists w y i) (sym s)
      (subst (λ xs. Contains xs i) (sym (at_there v w u n e l))
      (Contains-append_left (get_or v u []) (n ∷ []) i (subst (λ y. Lists v y i) s c)))
  | inr m ↦ subst (λ xs. Contains xs i) (sym (at_other v w u n z e m)) c
]

at_others : (v w : List (List ℕ)) (u n z i : ℕ) → IsListedAt v u n w → u < length v → Lists w z i
    → Lists v z i ⊎ (i ≡ n)
at_others v w u n z i e l c = elim (cases_eq z u) [
  | inl s ↦ elim (Contains-push_cases (get_or v u []) n i (subst (λ xs. Contains xs i) (at_there v w u n e l) (subst (λ y. Lists w y i) s c))) [
    | inl o ↦ inl (subst (λ y. Lists v y i) (sym s) o)
    | inr q ↦ inr (sym q)
  ]
  | inr m ↦ inl (subst (λ xs. Contains xs i) (at_other v w u n z e m) c)
]

at_itself : (v w : List (List ℕ)) (u n : ℕ) → IsListedAt v u n w → u < length v → Lists w u n
at_itself v w u n e l = subst (λ xs. Contains xs n) (sym (at_there v w u n e l))
    (Contains-push (get_or v u []) n)

-- ---- an entry that is listed

pub enlisted_full : (v w z : List (List ℕ)) (n : ℕ) (a : Entry) → IsListedAt v a.x n w
    → IsListedAt w a.y n z → a.x < length v → a.y < length v → IsEnlisted v n a z
enlisted_full v w z n a e g l m =
    let p : length w ≡ length v = at_count v w a.x n e in
    let o : a.y < length w = omega arith in
    record {
      count = at_count w z a.y n g ∙ p;
      kept = λ u i c. at_kept w z a.y n u i g o (at_kept v w a.x n u i e l c);
      others = λ u i c. elim (at_others w z a.y n u i g o c) [ inl b ↦ at_others v w a.x n u i e l b | inr b ↦ inr b ];
      full = λ x u f. elim (middle_of a x u f.pair) [
        | inl s ↦ subst (λ y. Lists z y n) (sym s)
            (at_kept w z a.y n a.x n g o (at_itself v w a.x n e l))
        | inr s ↦ subst (λ y. Lists z y n) (sym s) (at_itself w z a.y n g o)
      ];
    }

-- ---- the lists of a report

-- nothing was taken
pub listed_first : (d : StoreData) (lists : List (List ℕ)) → element_count d.elements ≤ length lists
    → ((u i : ℕ) → ¬ (Lists lists u i)) → AreListed d [] lists
listed_first d lists e n = record {
  count = e;
  within = λ u i c. absurd (n u i c);
  listed = λ i x u a h f m. absurd (both_ways (get_or {A = Bool} [] i false) (none i) m);
}
  where
    none : (i : ℕ) → get_or {A = Bool} [] i false ≡ false
    none i = refl

pub listed_grown : (d : StoreData) (taken next : List Bool) (lists : List (List ℕ))
    → AreListed d taken lists → IsGrown taken next → AreListed d next lists
listed_grown d taken next lists a g
    = record { count = a.count; within = a.within; listed = λ i x u b h f m. a.listed i x u b h f (sym (g i) ∙ m) }

-- entry n was marked and listed
pub listed_more : (d : StoreData) (taken : List Bool) (v w : List (List ℕ)) (n : ℕ) (a : Entry)
    → AreListed d taken v → IsEnlisted v n a w → slice_get d.entries n ≡ Some a
    → AreListed d (set taken n true) w
listed_more d taken v w n a l e h = record {
  count = omega (arith, e.count, l.count);
  within = λ u i c. elim (e.others u i c) [ inl o ↦ l.within u i o | inr q ↦ subst (λ z. z < length d.entries) (sym q) (slice_get_within d.entries n a h) ];
  listed = λ i x u b g f m. elim (cases_eq i n) [
    | inl q ↦
        let s : b ≡ a = same_Some b a (sym g ∙ (ap (λ z. slice_get d.entries z) q ∙ h)) in
        subst (λ z. Lists w u z) (sym q) (e.full x u (subst (λ (z : Entry). IsFullOf z x u) s f))
    | inr q ↦ e.kept u i (l.listed i x u b g f (sym (get_or-set_other taken n i true false q) ∙ m))
  ];
}

-- entries came, of which none was taken
pub listed_stays : (d f : StoreData) (taken : List Bool) (lists : List (List ℕ))
    → AreListed d taken lists → Extends d f → length taken ≤ length d.entries
    → AreListed f taken lists
listed_stays d f taken lists l g s =
    let m : length d.entries ≤ length f.entries = grown_longer d f g in
    record {
      count = subst (λ v. element_count v ≤ length lists) (sym g.elements) l.count;
      within = λ u i c. let o : i < length d.entries = l.within u i c in omega arith;
      listed = λ i x u a h q k. elim (cases_lt i (length taken)) [
        | inl o ↦ l.listed i x u a (entry_was d f i a g (omega arith) h) q k
        | inr o ↦ absurd (both_ways (get_or taken i false) (get_or_past taken i false o) k)
      ];
    }

-- ---- empty lists

pub none_more : {Q : Type 0} (f : Q → List ℕ) (lists : List Q) (q : Q)
    → ((u i : ℕ) → ¬ (Lists (map f lists) u i)) → f q ≡ [] → (u i : ℕ)
    → ¬ (Lists (map f (lists ++ q ∷ [])) u i)
none_more f [] q n e zero i c = contains_none i (subst (λ xs. Contains xs i) e c)
none_more f [] q n e (suc u) i c = contains_none i c
none_more f (p ∷ lists) q n e zero i c = n 0 i c
none_more f (p ∷ lists) q n e (suc u) i c = none_more f lists q (λ z j k. n (suc z) j k) e u i c

-- the lists below k are empty, and the list at k was emptied
pub none_below_more : {Q : Type 0} (f : Q → List ℕ) (lists : List Q) (k : ℕ) (q : Q)
    → ((u i : ℕ) → u < k → ¬ (Lists (map f lists) u i)) → k < length lists → f q ≡ [] → (u i : ℕ)
    → u < k + 1 → ¬ (Lists (map f (set lists k q)) u i)
none_below_more f lists k q n l e u i m c =
    let w : map f (set lists k q) ≡ set (map f lists) k (f q) = map-set f lists k q in
    let s : length (map f lists) ≡ length lists = length-map lists f in
    let d : Contains (get_or (set (map f lists) k (f q)) u []) i
    = subst (λ v. Contains (get_or v u []) i) w c in
    elim (cases_eq u k) [
      | inl z ↦ contains_none i
          (subst (λ v. Contains v i) (ap (λ y. get_or (set (map f lists) k (f q)) y []) z ∙ (get_or-set_same (map f lists) k (f q) [] (omega arith) ∙ e)) d)
      | inr z ↦ n u i (omega arith) (subst (λ v. Contains v i) (get_or-set_other (map f lists) k u (f q) [] z) d)
    ]

-- no list is left
pub none_at_all : {Q : Type 0} (f : Q → List ℕ) (lists : List Q) (k : ℕ)
    → ((u i : ℕ) → u < k → ¬ (Lists (map f lists) u i)) → length lists ≤ k → (u i : ℕ)
    → ¬ (Lists (map f lists) u i)
none_at_all f lists k n l u i c = elim (cases_lt u k) [
  | inl m ↦ n u i m c
  | inr m ↦ let s : length (map f lists) ≡ length lists = length-map lists f in
      contains_none i (subst (λ v. Contains v i) (get_or_past (map f lists) u [] (omega arith)) c)
]

-- ---- for the calls

pub enlisted_both : {Q : Type 0} (f : Q → List ℕ) (xs ys zs : List Q) (n : ℕ) (a : Entry)
    → IsListedAt (map f xs) a.x n (map f ys) → IsListedAt (map f ys) a.y n (map f zs)
    → a.x < length xs → a.y < length xs → IsEnlisted (map f xs) n a (map f zs)
enlisted_both f xs ys zs n a e g l m =
    let s : length (map f xs) ≡ length xs = length-map xs f in
    enlisted_full (map f xs) (map f ys) (map f zs) n a e g (omega arith) (omega arith)

-- each element has its list
pub list_there : {Q : Type 0} (f : Q → List ℕ) (lists : List Q) (d : StoreData) (taken : List Bool)
    (u : ℕ) → AreListed d taken (map f lists) → u < element_count d.elements → u < length lists
list_there f lists d taken u a l
    = let s : length (map f lists) ≡ length lists = length-map lists f in
    let e : element_count d.elements ≤ length (map f lists) = a.count in omega arith

-- no list has a number
pub lists_first : {Q : Type 0} (f : Q → List ℕ) (lists : List Q) (d : StoreData)
    → element_count d.elements ≤ length lists → ((u i : ℕ) → ¬ (Lists (map f lists) u i))
    → AreListed d [] (map f lists)
lists_first f lists d e n = listed_first d (map f lists)
    (subst (λ v. element_count d.elements ≤ v) (sym (length-map lists f)) e) n
