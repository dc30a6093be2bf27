-- Numbers that wait in queues.
use Rattle.std.proofs.Common.{◌≡◌, ℕ, ◌+◌, ◌<◌, ◌≤◌, ◌⊎◌, zero, suc, false, List, [], ◌∷◌, ◌++◌}
use Rattle.std.proofs.Common.{length, get_or, map, set, refl, sym, ◌∙◌, ap, subst, inl, inr, arith}
use Rattle.std.proofs.Common.{append_assoc, length-append, Contains, Option, Some, None, IsSome}
use Rattle.std.proofs.Common.{MatchOption, option_to_list, ◌↔◌}
use Rattle.std.specs.List.{concat}
use Rattle.std.proofs.lemmas.Bool.{both_ways, cases_lt, cases_order}
use Rattle.std.proofs.lemmas.List.{append-nil, get_or-map, get_or-set_other, length-map, length-set}
use Rattle.std.proofs.lemmas.List.{map-set}
use Rattle.std.proofs.Math.Seq.{map-set_same}
use Rattle.std.proofs.lemmas.List.Elements.{Contains-append_cases, Contains-append_left}
use Rattle.std.proofs.lemmas.List.Elements.{Contains-append_right, Contains-push}
use Rattle.std.proofs.lemmas.List.Elements.{Contains-push_cases}
use Rattle.hsearch.specs.Waiting.{AreEmpty, AreFilledFrom, IsWithRange, IsQueued, IsWith}

-- ---- one number more

pub contains_none : (i : ℕ) → Contains {X = ℕ} [] i → ⊥
contains_none i h = absurd (omega (arith, h.1))

middle_cases : (front back : List ℕ) (n i : ℕ) → Contains (front ++ n ∷ back) i
    → (i ≡ n) ⊎ Contains (front ++ back) i
middle_cases front back n i h = elim (Contains-append_cases front (n ∷ back) i h) [
  | inl o ↦ inr (Contains-append_left front back i o)
  | inr o ↦ elim (Contains-append_cases (n ∷ []) back i o) [
    | inl p ↦ elim (Contains-push_cases [] n i p) [ inl q ↦ absurd (contains_none i q) | inr q ↦ inl (sym q) ]
    | inr p ↦ inr (Contains-append_right front back i p)
  ]
]

pub with_cases : (v : List ℕ) (n : ℕ) (w : List ℕ) (i : ℕ) → IsWith v n w → Contains w i
    → (i ≡ n) ⊎ Contains v i
with_cases v n w i (front, back, e, f) h
    = elim (middle_cases front back n i (subst (λ z. Contains z i) f h)) [
      | inl q ↦ inl q
      | inr q ↦ inr (subst (λ z. Contains z i) (sym e) q)
    ]

pub with_itself : (v : List ℕ) (n : ℕ) (w : List ℕ) → IsWith v n w → Contains w n
with_itself v n w (front, back, e, f) =
    subst (λ z. Contains z n) (sym f)
    (Contains-append_right front (n ∷ back) n (Contains-append_left (n ∷ []) back n (Contains-push [] n)))

pub with_keeps : (v : List ℕ) (n : ℕ) (w : List ℕ) (i : ℕ) → IsWith v n w → Contains v i
    → Contains w i
with_keeps v n w i (front, back, e, f) h
    = subst (λ z. Contains z i) (sym f)
    (elim (Contains-append_cases front back i (subst (λ z. Contains z i) e h)) [
      | inl o ↦ Contains-append_left front (n ∷ back) i o
      | inr o ↦ Contains-append_right front (n ∷ back) i (Contains-append_right (n ∷ []) back i o)
    ])

pub with_longer : (v : List ℕ) (n : ℕ) (w : List ℕ) → IsWith v n w → length w ≡ length v + 1
with_longer v n w (front, back, e, f) =
    let g : length v ≡ length front + length back = ap length e ∙ length-append front back in
    let h : length w ≡ length front + suc (length back) = ap length f
    ∙ length-append front (n ∷ back) in
    omega arith

-- ---- numbers up to one

pub filled_more : (v w z : List ℕ) (m n : ℕ) → IsWithRange v w m n → m ≤ n → IsWith w n z
    → IsWithRange v z m (n + 1)
filled_more v w z m n f l o = record {
  kept = λ i h. with_keeps w n z i o (f.kept i h);
  added = λ i k b. elim (cases_lt i n) [
    | inl a ↦ with_keeps w n z i o (f.added i k a)
    | inr a ↦ let same : n ≡ i = omega arith in subst (λ p. Contains z p) same (with_itself w n z o)
  ];
  others = λ i h. elim (with_cases w n z i o h) [
    | inl e ↦ inr (omega arith, omega arith)
    | inr a ↦ elim (f.others i a) [ inl b ↦ inl b | inr b ↦ inr (b.0, omega (arith, b.1)) ]
  ];
  count = let a : length z ≡ length w + 1 = with_longer w n z o in omega (arith, f.count);
}

pub filled_to : (v w : List ℕ) (m n k : ℕ) → IsWithRange v w m n → n ≡ k → IsWithRange v w m k
filled_to v w m n k f e = subst (λ z. IsWithRange v w m z) e f

-- ---- queues

-- one queue more
pub concat_push : {Q : Type 0} (f : Q → List ℕ) (queues : List Q) (q : Q)
    → concat (map f (queues ++ q ∷ [])) ≡ concat (map f queues) ++ f q
concat_push f [] q = append-nil (f q)
concat_push f (x ∷ queues) q = ap (λ z. f x ++ z) (concat_push f queues q)
    ∙ sym (append_assoc (f x) (concat (map f queues)) (f q))

pub one_empty : {Q : Type 0} (f : Q → List ℕ) (queues : List Q) (q : Q) → concat (map f queues) ≡ []
    → f q ≡ [] → concat (map f (queues ++ q ∷ [])) ≡ []
one_empty f queues q e g = concat_push f queues q ∙ (ap (λ z. z ++ f q) e ∙ g)

-- a number at the end of a queue
pub put_in : (queues : List (List ℕ)) (k n : ℕ) → k < length queues
    → IsWith (concat queues) n (concat (set queues k (get_or queues k [] ++ n ∷ [])))
put_in [] k n l = absurd (omega arith)
put_in (q ∷ queues) zero n l = (q, concat queues, refl, append_assoc q (n ∷ []) (concat queues))
put_in (q ∷ queues) (suc k) n l =
    let t = put_in queues k n (omega arith) in
    (q ++ t.0, t.1, ap (λ z. q ++ z) t.2 ∙ sym (append_assoc q t.0 t.1), ap (λ z. q ++ z) t.3 ∙ sym (append_assoc q t.0 (n ∷ t.1)))

-- the number at the front of a queue
pub take_from : (queues : List (List ℕ)) (k n : ℕ) (rest : List ℕ) → k < length queues
    → get_or queues k [] ≡ n ∷ rest
    → IsWith (concat (set queues k rest)) n (concat queues)
take_from [] k n rest l e = absurd (omega arith)
take_from (q ∷ queues) zero n rest l e
    = ([], rest ++ concat queues, refl, ap (λ z. z ++ concat queues) e)
take_from (q ∷ queues) (suc k) n rest l e =
    let t = take_from queues k n rest (omega arith) e in
    (q ++ t.0, t.1, ap (λ z. q ++ z) t.2 ∙ sym (append_assoc q t.0 t.1), ap (λ z. q ++ z) t.3 ∙ sym (append_assoc q t.0 (n ∷ t.1)))

-- all queues are empty
pub none_in : (queues : List (List ℕ)) → AreEmpty queues 0 (length queues) → concat queues ≡ []
none_in [] h = refl
none_in (q ∷ queues) h = ap (λ z. z ++ concat queues) (h 0 (omega arith) (omega arith))
    ∙ none_in queues (λ k l m. h (suc k) (omega arith) (omega arith))

-- ---- a queue that is written

nothing : (xs : List ℕ) (n : ℕ) → n ≡ length xs → n ≡ 0 → xs ≡ []
nothing [] n e z = refl
nothing (x ∷ xs) n e z = absurd (omega arith)

-- one place more at which nothing waits
pub empty_more : {Q : Type 0} (f : Q → List ℕ) (queues : List Q) (m n : ℕ) (q d : Q) (len : ℕ)
    → AreEmpty (map f queues) m n → n < length queues → get_or queues n d ≡ q
    → len ≡ length (f q) → len ≡ 0 → AreEmpty (map f queues) m (n + 1)
empty_more f queues m n q d len a l e o z k i j = elim (cases_lt k n) [
  | inl b ↦ a k i b
  | inr b ↦ let same : n ≡ k = omega arith in
      subst (λ v. get_or (map f queues) v [] ≡ []) same
      (get_or-map f queues n d [] l ∙ (ap f e ∙ nothing (f q) len o z))
]

-- a queue was written with what it had
pub queued_same : {Q : Type 0} (f : Q → List ℕ) (queues : List Q) (least k : ℕ) (q d : Q)
    → IsQueued (map f queues) least → f q ≡ f (get_or queues k d)
    → IsQueued (map f (set queues k q)) least
queued_same f queues least k q d s e
    = subst (λ v. IsQueued v least) (sym (map-set_same f queues k q d e)) s

-- a queue was written, and those below are empty
pub queued_set : {Q : Type 0} (f : Q → List ℕ) (queues : List Q) (least next k : ℕ) (q : Q)
    → IsQueued (map f queues) least → next ≤ k → k ≤ 121 → AreEmpty (map f queues) 0 next
    → IsQueued (map f (set queues k q)) next
queued_set f queues least next k q s l b a =
    let e : map f (set queues k q) ≡ set (map f queues) k (f q) = map-set f queues k q in
    let n : length (set (map f queues) k (f q)) ≡ 122 = length-set (map f queues) k (f q)
    ∙ s.sizes in
    subst (λ v. IsQueued v next) (sym e) (record {
      sizes = n;
      within = omega arith;
      empty = λ j i m. get_or-set_other (map f queues) k j (f q) []
          (λ same. absurd (omega arith)) ∙ a j i m;
    })

-- each size has its queue
pub place_within : {Q : Type 0} (f : Q → List ℕ) (queues : List Q) (least k : ℕ)
    → IsQueued (map f queues) least → k ≤ 121 → k < length queues
place_within f queues least k s l
    = let same : length (map f queues) ≡ length queues = length-map queues f in
    omega (arith, s.sizes)

-- with a number at its end
pub queue_put : {Q : Type 0} (f : Q → List ℕ) (queues : List Q) (k n : ℕ) (q old : Q) (v : List ℕ)
    → k < length queues → get_or queues k old ≡ old → f q ≡ f old ++ n ∷ []
    → concat (map f queues) ≡ v → IsWith v n (concat (map f (set queues k q)))
queue_put f queues k n q old v l e p w =
    let same : length (map f queues) ≡ length queues = length-map queues f in
    let m : k < length (map f queues) = omega arith in
    let was : get_or (map f queues) k [] ≡ f old = get_or-map f queues k old [] l ∙ ap f e in
    let more : f q ≡ get_or (map f queues) k [] ++ n ∷ [] = p ∙ ap (λ z. z ++ n ∷ []) (sym was) in
    let now : map f (set queues k q) ≡ set (map f queues) k (get_or (map f queues) k [] ++ n ∷ [])
    = map-set f queues k q ∙ ap (λ z. set (map f queues) k z) more in
    subst (λ z. IsWith z n (concat (map f (set queues k q)))) w
    (subst (λ z. IsWith (concat (map f queues)) n (concat z)) (sym now) (put_in (map f queues) k n m))

-- without the number at its front
pub queue_take : {Q : Type 0} (f : Q → List ℕ) (queues : List Q) (k : ℕ) (q old : Q) (r : Option ℕ)
    (len : ℕ) (v w : List ℕ) → k < length queues → get_or queues k old ≡ old
    → f old ≡ option_to_list r ++ f q → len ≡ length (f old) → (IsSome r ↔ (0 < len))
    → ¬ (get_or (map f queues) k [] ≡ [])
    → concat (map f queues) ≡ v → concat (map f (set queues k q)) ≡ w
    → MatchOption r ((v ≡ []) × (w ≡ [])) (λ n. IsWith w n v)
queue_take f queues k q old None len v w l e p o s x g h =
    absurd (x (get_or-map f queues k old [] l ∙ (ap f e ∙ nothing (f old) len o none)))
  where
    none : len ≡ 0
    none = elim (cases_lt 0 len) [ inl b ↦ absurd (both_ways false refl (s.1 b)) | inr b ↦ omega arith ]
queue_take f queues k q old (Some n) len v w l e p o s x g h =
    let same : length (map f queues) ≡ length queues = length-map queues f in
    let m : k < length (map f queues) = omega arith in
    let front : get_or (map f queues) k [] ≡ n ∷ f q = get_or-map f queues k old [] l
    ∙ (ap f e ∙ p) in
    let now : concat (set (map f queues) k (f q)) ≡ w
    = ap concat (sym (map-set f queues k q)) ∙ h in
    subst (λ z. IsWith w n z) g
    (subst (λ z. IsWith z n (concat (map f queues))) now (take_from (map f queues) k n (f q) m front))

-- ---- the first queue that has a number

-- each queue is that of a size
pub place_below : {Q : Type 0} (f : Q → List ℕ) (queues : List Q) (least k : ℕ)
    → IsQueued (map f queues) least → k < length queues → k ≤ 121
place_below f queues least k s l
    = let same : length (map f queues) ≡ length queues = length-map queues f in
    omega (arith, s.sizes)

-- those below it are empty
pub below_filled : (queues : List (List ℕ)) (least n : ℕ) → IsQueued queues least
    → AreFilledFrom queues least n → AreEmpty queues 0 n
below_filled queues least n s f k i l
    = elim (cases_lt k least) [ inl b ↦ s.empty k i b | inr b ↦ f.empty k b l ]

pub filled_at : {Q : Type 0} (f : Q → List ℕ) (queues : List Q) (least n : ℕ)
    → AreFilledFrom (map f queues) least n → n < length queues → ¬ (get_or (map f queues) n [] ≡ [])
filled_at f queues least n g l
    = let same : length (map f queues) ≡ length queues = length-map queues f in
    g.filled (omega arith)

pub filled_within : {Q : Type 0} (f : Q → List ℕ) (queues : List Q) (least n : ℕ)
    → AreFilledFrom (map f queues) least n → ¬ (n ≡ length queues) → n < length queues
filled_within f queues least n g e
    = let same : length (map f queues) ≡ length queues = length-map queues f in
    elim (cases_order n (length queues)) [
      | inl o ↦ absurd (e o)
      | inr o ↦ elim o [ inl b ↦ b | inr b ↦ absurd (omega (arith, g.within)) ]
    ]

-- no queue has a number
pub none_left : {Q : Type 0} (f : Q → List ℕ) (queues : List Q) (least n : ℕ)
    → IsQueued (map f queues) least → AreFilledFrom (map f queues) least n → n ≡ length queues
    → concat (map f queues) ≡ []
none_left f queues least n s g e =
    let same : n ≡ length (map f queues) = e ∙ sym (length-map queues f) in
    none_in (map f queues)
    (subst (λ v. AreEmpty (map f queues) 0 v) same (below_filled (map f queues) least n s g))
