-- Marks of the entries on which entries rest.
use Rattle.std.proofs.Common.{◌≡◌, ℕ, ◌+◌, ◌<◌, ◌≤◌, true, false, Bool, List, [], ◌∷◌, ◌++◌, Some}
use Rattle.std.proofs.Common.{All, length, get_or, replicate, set, take, refl, sym, ◌∙◌, ap, subst}
use Rattle.std.proofs.Common.{inl, inr, zero, suc, arith}
use Rattle.std.specs.List.{slice_get}
use Rattle.std.proofs.lemmas.Bool.{cases_eq, true≢false}
use Rattle.std.proofs.lemmas.List.{get_or-set_other, get_or-set_same, length-set, take_more}
use Rattle.std.proofs.lemmas.List.Elements.{All-append, All-cons, All-head, All-nil, All-tail}
use Rattle.std.proofs.lemmas.List.Elements.{All-weaker}
use Rattle.std.proofs.lemmas.Option.{slice_get-get_or, slice_get_within}
use Rattle.conn_store.specs.declared.entries.Entry.{Entry}
use Rattle.win_cert.specs.Cuts.{premises}
use Rattle.win_cert.specs.Cutting.{AreInside, IsClosedFrom, IsMarkedBy, NameEarlier, is_marked}
use Rattle.win_cert.proofs.CutDerivations.{some_entry}

kept_one : (m : List Bool) (i j : ℕ) → j < length m → is_marked m i ≡ true
    → is_marked (set m j true) i ≡ true
kept_one m i j l h = elim (cases_eq i j) [
  | inl q ↦ subst (λ v. get_or (set m j true) v false ≡ true) (sym q)
      (get_or-set_same m j true false l)
  | inr n ↦ get_or-set_other m j i true false n ∙ h
]

inside_one : (m : List Bool) (j : ℕ) (s : ℕ → Bool) → AreInside m s → s j ≡ true
    → AreInside (set m j true) s
inside_one m j s f h i t = elim (cases_eq i j) [
  | inl q ↦ subst (λ v. s v ≡ true) (sym q) h
  | inr n ↦ f i (sym (get_or-set_other m j i true false n) ∙ t)
]

All-front : {X : Type 0} (P : X → Type 0) (xs ys : List X) → All P (xs ++ ys) → All P xs
All-front P [] ys h = All-nil P
All-front P (x ∷ xs) ys h
    = All-cons P x xs (All-head P x (xs ++ ys) h) (All-front P xs ys (All-tail P x (xs ++ ys) h))

All-last : {X : Type 0} (P : X → Type 0) (xs : List X) (y : X) → All P (xs ++ y ∷ []) → P y
All-last P [] y h = All-head P y [] h
All-last P (x ∷ xs) y h = All-last P xs y (All-tail P x (xs ++ y ∷ []) h)

apart_from : (j b k : ℕ) → j < b → b ≤ k → k ≡ j → ⊥
apart_from j b k l n q = absurd (omega arith)

-- one entry more is marked
pub one_marked : (m n : List Bool) (numbers : List ℕ) (q : ℕ) → q < length m
    → IsMarkedBy m numbers n → IsMarkedBy m (numbers ++ q ∷ []) (set n q true)
one_marked m n numbers q l t =
    let w : q < length n = subst (λ v. q < v) (sym t.number) l in
    let own : (s : ℕ → Bool) → All (λ i. s i ≡ true) (numbers ++ q ∷ []) → s q ≡ true
    = λ s h. All-last (λ i. s i ≡ true) numbers q h in
    record {
      number = length-set n q true ∙ t.number;
      kept = λ k h. kept_one n k q w (t.kept k h);
      more = All-append (λ k. is_marked (set n q true) k ≡ true) numbers (q ∷ [])
          (All-weaker (λ k. is_marked n k ≡ true) (λ k. is_marked (set n q true) k ≡ true) (λ k h. kept_one n k q w h) numbers t.more)
          (All-cons (λ k. is_marked (set n q true) k ≡ true) q [] (get_or-set_same n q true false w) (All-nil (λ k. is_marked (set n q true) k ≡ true)));
      least = λ s h f. inside_one n q s
          (t.least s (All-front (λ i. s i ≡ true) numbers (q ∷ []) h) f) (own s h);
      rest = λ b k h p. get_or-set_other n q k true false
          (apart_from q b k (All-last (λ v. v < b) numbers q h) p)
          ∙ t.rest b k (All-front (λ v. v < b) numbers (q ∷ []) h) p;
    }

-- the next of these entries is marked
pub next_marked : (m n : List Bool) (numbers : List ℕ) (i : ℕ) → i < length numbers
    → All (λ j. j < length m) numbers → IsMarkedBy m (take i numbers) n
    → IsMarkedBy m (take (i + 1) numbers) (set n (get_or numbers i 0) true)
next_marked m n numbers i l h t = subst (λ v. IsMarkedBy m v (set n (get_or numbers i 0) true))
    (sym (take_more numbers i 0 l))
    (one_marked m n (take i numbers) (get_or numbers i 0) (h i 0 l) t)

no_mark : (n i : ℕ) → get_or (replicate n false) i false ≡ false
no_mark zero i = refl
no_mark (suc n) zero = refl
no_mark (suc n) (suc i) = no_mark n i

-- where nothing is marked
pub none_inside : (m : List Bool) (n : ℕ) (s : ℕ → Bool) → m ≡ replicate n false → AreInside m s
none_inside m n s e i t = absurd (true≢false (sym t ∙ ap (λ v. get_or v i false) e ∙ no_mark n i))

pub none_closed : (entries : List Entry) (m : List Bool) → IsClosedFrom entries m (length entries)
none_closed entries m j a l h q = let k : j < length entries = slice_get_within entries j a q in
    absurd (omega (arith, l, k))

-- one entry more: the marks of those after it are as they were
pub closed_more : (entries : List Entry) (m n : List Bool) (left : ℕ) (a : Entry)
    → NameEarlier entries → IsClosedFrom entries m (left + 1) → slice_get entries left ≡ Some a
    → IsMarkedBy m (premises a.cause) n → IsClosedFrom entries n left
closed_more entries m n left a e c q w j b l h p = elim (cases_eq j left) [
  | inl s ↦ let same : a ≡ b
      = some_entry a b (sym q ∙ subst (λ v. slice_get entries v ≡ Some b) s p) in
      subst (λ v. All (λ k. is_marked n k ≡ true) (premises v.cause)) same w.more
  | inr d ↦ All-weaker (λ k. is_marked m k ≡ true) (λ k. is_marked n k ≡ true) w.kept
      (premises b.cause)
      (c j b (omega (arith, l, d)) (sym (w.rest left j (e left a q) l) ∙ h) p)
]

-- an entry that is read
pub read_at : (entries : List Entry) (i : ℕ) (a : Entry) → i < length entries
    → a ≡ get_or entries i a → slice_get entries i ≡ Some a
read_at entries i a l h = slice_get-get_or entries i a l ∙ ap (λ v. Some v) (sym h)

-- a mark that is read
pub marked_at : (m : List Bool) (i : ℕ) (v : Bool) → i < length m → v ≡ get_or m i v → v ≡ true
    → is_marked m i ≡ true
marked_at [] i v l e h = absurd (omega (arith, l))
marked_at (b ∷ m) zero v l e h = sym e ∙ h
marked_at (b ∷ m) (suc i) v l e h = marked_at m i v (omega (arith, l)) e h
