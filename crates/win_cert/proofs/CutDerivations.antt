-- The premises of an entry are earlier ones.
use Rattle.std.proofs.Common.{◌≡◌, ℕ, ◌+◌, ◌<◌, ◌≤◌, ◌==◌, true, false, Bool, List, [], ◌∷◌, ◌++◌}
use Rattle.std.proofs.Common.{Some, All, length, take, if◌then◌else◌, refl, subst, inl, inr}
use Rattle.std.proofs.Common.{◌⊎◌, zero, suc, arith}
use Rattle.std.specs.List.{slice_get}
use Rattle.std.proofs.lemmas.List.Elements.{All-cons, All-head, All-nil}
use Rattle.hex_board.specs.Elements.{PlayerBoard}
use Rattle.conn_store.specs.Rules.{AreAt, FollowsBy}
use Rattle.conn_store.specs.Stores.{IsSound, StoreData}
use Rattle.conn_store.specs.declared.entries.Cause.{Cause}
use Rattle.conn_store.specs.declared.entries.Cause.TheVariants.{Adjacent, AndGroup, AndEmpty, Or}
use Rattle.conn_store.specs.declared.entries.Entry.{Entry}
use Rattle.conn_store.proofs.RuleTruth.{taken_below}
use Rattle.win_cert.specs.Cuts.{premises}
use Rattle.win_cert.specs.Cutting.{NameEarlier}
use Rattle.win_cert.proofs.CutLines.{second_in, third_in, number_of_ways}

-- ---- names of earlier entries

all_below : (entries : List Entry) (n : ℕ) (numbers : List ℕ) (ways : List Entry)
    → AreAt (take n entries) numbers ways → All (λ j. j < n) numbers
all_below entries n [] ways h = All-nil (λ j. j < n)
all_below entries n (i ∷ numbers) [] h = absurd (cc)
all_below entries n (i ∷ numbers) (a ∷ ways) h
    = All-cons (λ j. j < n) i numbers (taken_below entries n i a (cc))
    (all_below entries n numbers ways (cc))

two_or_three : (m : ℕ) → (m ≡ 2) ⊎ (m ≡ 3) → 2 ≤ m
two_or_three m (inl h) = omega arith
two_or_three m (inr h) = omega arith

third_added : (n i j k : ℕ) (two : Bool) → i < n → j < n → k < n
    → All (λ v. v < n) (i ∷ j ∷ (if two then [] else k ∷ []))
third_added n i j k true p q r
    = All-cons (λ v. v < n) i (j ∷ []) p (All-cons (λ v. v < n) j [] q (All-nil (λ v. v < n)))
third_added n i j k false p q r
    = All-cons (λ v. v < n) i (j ∷ k ∷ []) p
    (All-cons (λ v. v < n) j (k ∷ []) q (All-cons (λ v. v < n) k [] r (All-nil (λ v. v < n))))

or_below : (n : ℕ) (numbers : List ℕ) (count : ℕ) → All (λ j. j < n) (take count numbers)
    → 2 ≤ length (take count numbers) → All (λ j. j < n) (premises (Or numbers count))
or_below n numbers zero h l = absurd (omega arith)
or_below n [] (suc count) h l = absurd (omega arith)
or_below n (i ∷ numbers) (suc zero) h l = absurd (omega arith)
or_below n (i ∷ []) (suc (suc count)) h l = absurd (omega arith)
or_below n (i ∷ j ∷ numbers) (suc (suc zero)) h l = h
or_below n (i ∷ j ∷ []) (suc (suc (suc count))) h l =
    let P : ℕ → Type 0 = λ j. j < n in
    let li : i < n = All-head P i (j ∷ []) h in
    third_added n i j 0 (suc (suc (suc count)) == 2) li (second_in P i j [] h) (omega arith)
or_below n (i ∷ j ∷ m ∷ numbers) (suc (suc (suc count))) h l =
    let P : ℕ → Type 0 = λ j. j < n in
    let rest = m ∷ take count numbers in
    third_added n i j m (suc (suc (suc count)) == 2) (All-head P i (j ∷ rest) h)
    (second_in P i j rest h) (third_in P i j m (take count numbers) h)

by_below : (e : PlayerBoard) (entries : List Entry) (n : ℕ) (a : Entry) (cause : Cause)
    → FollowsBy e (take n entries) a cause → All (λ j. j < n) (premises cause)
by_below e entries n a Adjacent f = All-nil (λ j. j < n)
by_below e entries n a (AndGroup i j) (b, d, x, u, y, t, r, g, w, k, c)
    = all_below entries n (i ∷ j ∷ []) (b ∷ d ∷ []) t
by_below e entries n a (AndEmpty i j) (b, d, x, u, y, z, t, r, g, w, k, c)
    = all_below entries n (i ∷ j ∷ []) (b ∷ d ∷ []) t
by_below e entries n a (Or numbers count) (ways, t, r, k, c)
    = or_below n numbers count (all_below entries n (take count numbers) ways t)
    (subst (λ v. 2 ≤ v) (number_of_ways (take n entries) (take count numbers) ways t) (two_or_three (length ways) r.number))

-- each entry of a store names earlier ones
pub name_earlier : (d : StoreData) → IsSound d → NameEarlier d.entries
name_earlier d s i a h = by_below d.elements d.entries i a a.cause (s.follows i a h)

-- ---- lists

pub last_at : {X : Type 0} (xs : List X) (x : X) → slice_get (xs ++ x ∷ []) (length xs) ≡ Some x
last_at [] x = refl
last_at (y ∷ xs) x = last_at xs x

pub longer : {X : Type 0} (xs : List X) (x : X) → length (xs ++ x ∷ []) ≡ length xs + 1
longer [] x = refl
longer (y ∷ xs) x = let e : length (xs ++ x ∷ []) ≡ length xs + 1 = longer xs x in omega arith

pub some_entry : (a b : Entry) → Some a ≡ Some b → a ≡ b
some_entry a b h = cc

pub some_at : {X : Type 0} (xs : List X) (k : ℕ) → k < length xs
    → (x : X) × (slice_get xs k ≡ Some x)
some_at [] k l = absurd (omega arith)
some_at (x ∷ xs) zero l = (x, refl)
some_at (x ∷ xs) (suc k) l = some_at xs k (omega arith)
