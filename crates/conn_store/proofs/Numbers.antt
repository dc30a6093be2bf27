-- The numbers of the entries of a pair and kind.
use Rattle.std.proofs.Common.{◌≡◌, ℕ, ◌+◌, ◌-◌, ◌<◌, ◌≤◌, zero, suc, Bool, true, false, cond}
use Rattle.std.proofs.Common.{if◌then◌else◌, List, [], ◌∷◌, ◌++◌, length, replicate, get_or, set}
use Rattle.std.proofs.Common.{Some, refl, sym, ◌∙◌, ap, subst, arith, length-append, append_assoc}
use Rattle.std.specs.List.{count_by, slice_get}
use Rattle.std.proofs.lemmas.List.Sums.{sum_by-cons}
use Rattle.std.proofs.Math.Seq.{set-append_seam}
use Rattle.conn_store.specs.Stores.{IsPairFull, StoreData, held_of, is_of, most_of, numbers_from}
use Rattle.conn_store.specs.Stores.{numbers_of}
use Rattle.conn_store.specs.declared.entries.Entry.{Entry}
use Rattle.conn_store.specs.declared.entries.Held.{Held}
use Rattle.conn_store.specs.declared.entries.Kind.{Kind}

-- the number n, if the test passes
abbrev pub one_if : Bool → ℕ → List ℕ
one_if b n = if b then n ∷ [] else []

front : (b : Bool) (n : ℕ) (xs ys zs : List ℕ) → xs ≡ ys ++ zs
    → (if b then n ∷ xs else xs) ≡ (if b then n ∷ ys else ys) ++ zs
front true n xs ys zs e = ap (λ v. n ∷ v) e
front false n xs ys zs e = e

pub numbers_over : (n : ℕ) (kind : Kind) (x y : ℕ) (entries more : List Entry)
    → numbers_from n kind x y (entries ++ more) ≡ numbers_from n kind x y entries ++ numbers_from
    (n + length entries) kind x y more
numbers_over n kind x y [] more = let e : n + 0 ≡ n = omega arith in
    ap (λ v. numbers_from v kind x y more) (sym e)
numbers_over n kind x y (b ∷ entries) more =
    let e : suc n + length entries ≡ n + suc (length entries) = omega arith in
    front (is_of kind x y b) n (numbers_from (suc n) kind x y (entries ++ more))
    (numbers_from (suc n) kind x y entries)
    (numbers_from (n + suc (length entries)) kind x y more)
    (numbers_over (suc n) kind x y entries more ∙ ap (λ v. numbers_from (suc n) kind x y entries ++ numbers_from v kind x y more) e)

pub numbers_push : (n : ℕ) (kind : Kind) (x y : ℕ) (entries : List Entry) (a : Entry)
    → numbers_from n kind x y (entries ++ a ∷ []) ≡ numbers_from n kind x y entries ++ one_if
    (is_of kind x y a) (n + length entries)
numbers_push n kind x y entries a = numbers_over n kind x y entries (a ∷ [])

-- entry i, if the first has the number n, is of that kind and pair
abbrev pub IsListed : ℕ → Kind → ℕ → ℕ → List Entry → ℕ → Type 0
IsListed n kind x y entries number =
    (i : ℕ) × (a : Entry) × (number ≡ n + i) × (slice_get entries i ≡ Some a)
    × (is_of kind x y a ≡ true)

listed_later : (n : ℕ) (kind : Kind) (x y : ℕ) (b : Entry) (entries : List Entry) (number : ℕ)
    → IsListed (suc n) kind x y entries number → IsListed n kind x y (b ∷ entries) number
listed_later n kind x y b entries number (i, a, e, g, h) = (suc i, a, omega arith, g, h)

pub numbers_in : (n : ℕ) (kind : Kind) (x y : ℕ) (entries : List Entry) (j : ℕ)
    → j < length (numbers_from n kind x y entries)
    → IsListed n kind x y entries (get_or (numbers_from n kind x y entries) j 0)
numbers_in n kind x y [] j l = absurd (omega arith)
numbers_in n kind x y (a ∷ entries) j l = cases (is_of kind x y a) n x y a entries j refl l
    (λ i. numbers_in (suc n) kind x y entries i)
  where
    cases : (b : Bool) (n x y : ℕ) (a : Entry) (entries : List Entry) (j : ℕ) → is_of kind x y a ≡ b
        → j < length
        (if b then n ∷ numbers_from (suc n) kind x y entries else numbers_from (suc n) kind x y entries)
        → ((i : ℕ) → i < length (numbers_from (suc n) kind x y entries)
        → IsListed (suc n) kind x y entries (get_or (numbers_from (suc n) kind x y entries) i 0))
        → IsListed n kind x y (a ∷ entries)
        (get_or (if b then n ∷ numbers_from (suc n) kind x y entries else numbers_from (suc n) kind x y entries) j 0)
    cases true n x y a entries zero h l f = let e : n ≡ n + 0 = omega arith in (0, a, e, refl, h)
    cases true n x y a entries (suc j) h l f
        = listed_later n kind x y a entries (get_or (numbers_from (suc n) kind x y entries) j 0)
        (f j (omega arith))
    cases false n x y a entries j h l f
        = listed_later n kind x y a entries
        (get_or (numbers_from (suc n) kind x y entries) j 0) (f j l)

-- number i stands in the list
abbrev pub Stands : List ℕ → ℕ → Type 0
Stands numbers i = (j : ℕ) × (j < length numbers) × (get_or numbers j 0 ≡ i)

stands_later : (b : Bool) (n : ℕ) (xs : List ℕ) (i : ℕ) → Stands xs i
    → Stands (if b then n ∷ xs else xs) i
stands_later true n xs i (j, l, e) = (suc j, omega arith, e)
stands_later false n xs i s = s

stands_first : (b : Bool) (n : ℕ) (xs : List ℕ) (i : ℕ) → b ≡ true → i ≡ n
    → Stands (if b then n ∷ xs else xs) i
stands_first true n xs i h e = (0, omega arith, sym e)
stands_first false n xs i h e = absurd (cc)

pub numbers_all : (n : ℕ) (kind : Kind) (x y : ℕ) (entries : List Entry) (i : ℕ) (a : Entry)
    → slice_get entries i ≡ Some a → is_of kind x y a ≡ true
    → Stands (numbers_from n kind x y entries) (n + i)
numbers_all n kind x y [] i a g h = absurd (cc)
numbers_all n kind x y (b ∷ entries) zero a g h =
    let q : b ≡ a = cc in
    stands_first (is_of kind x y b) n (numbers_from (suc n) kind x y entries) (n + 0)
    (ap (λ v. is_of kind x y v) q ∙ h) (omega arith)
numbers_all n kind x y (b ∷ entries) (suc i) a g h =
    let e : suc n + i ≡ n + suc i = omega arith in
    stands_later (is_of kind x y b) n (numbers_from (suc n) kind x y entries) (n + suc i)
    (subst (λ v. Stands (numbers_from (suc n) kind x y entries) v) e (numbers_all (suc n) kind x y entries i a g h))

-- ---- how many there are

listed_one : (b : Bool) (n : ℕ) (xs : List ℕ)
    → length (if b then n ∷ xs else xs) ≡ cond {A = ℕ} b 1 0 + length xs
listed_one true n xs = omega arith
listed_one false n xs = omega arith

-- a pair has as many numbers of a kind as entries
pub numbers_counted : (n : ℕ) (kind : Kind) (x y : ℕ) (entries : List Entry)
    → length (numbers_from n kind x y entries) ≡ count_by (is_of kind x y) entries
numbers_counted n kind x y [] = refl
numbers_counted n kind x y (a ∷ entries) =
    listed_one (is_of kind x y a) n (numbers_from (suc n) kind x y entries)
    ∙ (ap (λ v. cond {A = ℕ} (is_of kind x y a) 1 0 + v) (numbers_counted (suc n) kind x y entries)
    ∙ sym (sum_by-cons (λ (b : Entry). cond {A = ℕ} (is_of kind x y b) 1 0) a entries))

pub counted_full : (d : StoreData) (kind : Kind) (x y : ℕ)
    → most_of kind ≤ length (numbers_of d kind x y) → IsPairFull d kind x y
counted_full d kind x y l = subst (λ n. most_of kind ≤ n) (numbers_counted 0 kind x y d.entries) l

pub full_counted : (d : StoreData) (kind : Kind) (x y : ℕ) → IsPairFull d kind x y
    → most_of kind ≤ length (numbers_of d kind x y)
full_counted d kind x y l
    = subst (λ n. most_of kind ≤ n) (sym (numbers_counted 0 kind x y d.entries)) l

-- ---- one number more

zeros : (m n : ℕ) → m ≡ suc n → replicate {A = ℕ} m 0 ≡ 0 ∷ replicate {A = ℕ} n 0
zeros m n e = ap (λ v. replicate {A = ℕ} v 0) e

pub held_more : (numbers : List ℕ) (i : ℕ) → length numbers < 6
    → held_of (numbers ++ i ∷ []) ≡ record { count = length numbers + 1; at = set (held_of numbers).at (length numbers) i }
held_more numbers i l =
    let n = length numbers in
    let e : length (numbers ++ i ∷ []) ≡ n + 1 = length-append numbers (i ∷ []) in
    let f : replicate {A = ℕ} (6 - n) 0 ≡ 0 ∷ replicate {A = ℕ} (6 - (n + 1)) 0
    = zeros (6 - n) (6 - (n + 1)) (omega arith) in
    let g : set (numbers ++ replicate (6 - n) 0) n i ≡ numbers ++ i ∷ replicate (6 - (n + 1)) 0 =
    ap (λ (v : List ℕ). set (numbers ++ v) n i) f
    ∙ set-append_seam numbers 0 (replicate {A = ℕ} (6 - (n + 1)) 0) i in
    let h : (numbers ++ i ∷ []) ++ replicate
    (6 - length (numbers ++ i ∷ [])) 0 ≡ numbers ++ i ∷ replicate (6 - (n + 1)) 0 =
    ap (λ v. (numbers ++ i ∷ []) ++ replicate (6 - v) 0) e
    ∙ append_assoc numbers (i ∷ []) (replicate (6 - (n + 1)) 0) in
    held_same (length (numbers ++ i ∷ [])) (n + 1) _ _ e (h ∙ sym g)
  where
    held_same : (a b : ℕ) (xs ys : List ℕ) → a ≡ b → xs ≡ ys
        → ◌≡◌ {A = Held} (record { count = a; at = xs }) (record { count = b; at = ys })
    held_same a b xs ys e f = cc
