-- The parts of a list that is cut at elements.
use Rattle.std.proofs.Common.{◌≡◌, ◌≢◌, ℕ, ◌+◌, ◌<◌, ◌≤◌, Bool, cond, ltb}
use Rattle.std.proofs.Common.{List, [], ◌∷◌, length, take, drop, Some, None, ap, sym}
use Rattle.std.proofs.Common.{◌∙◌, subst, arith}
use Rattle.std.specs.List.{position, position_or_len, slice_split}
use Rattle.std.proofs.lemmas.Bool.{false_from_ne_true}
use Rattle.std.proofs.lemmas.Bool.Decides.{nat_tests}
use Rattle.std.proofs.lemmas.Option.{cond_some, none-some}
use Rattle.std.proofs.lemmas.List.Splits.{length-slice_split, slice_split_first, slice_split_none}
use Rattle.std.proofs.lemmas.List.Sums.{fails_before_first}

-- if no element passes, the list is the one part
pub split_whole : (p : ℕ → Bool) (xs : List ℕ) → position p xs ≡ None → slice_split p xs ≡ xs ∷ []
split_whole p xs e =
    let far = false_from_ne_true (ltb (position_or_len p xs) (length xs)) (λ t.
    none-some (position_or_len p xs)
    (sym e ∙ ap (λ b. cond b (Some (position_or_len p xs)) None) t)) in
    let past : length xs ≤ position_or_len p xs = grind (arith, nat_tests) in
    slice_split_none p xs (λ k d l. fails_before_first p xs k d (omega arith))

-- the first part ends before the first element that passes
pub split_first : (p : ℕ → Bool) (xs : List ℕ) (i : ℕ) → position p xs ≡ Some i
    → slice_split p xs ≡ take i xs ∷ slice_split p (drop (i + 1) xs)
split_first p xs i e =
    let found = cond_some (ltb (position_or_len p xs) (length xs)) (position_or_len p xs) i e in
    let within : position_or_len p xs < length xs = grind (arith, nat_tests) in
    subst (λ j. slice_split p xs ≡ take j xs ∷ slice_split p (drop (j + 1) xs)) found.1
    (slice_split_first p xs 0 within)

-- there is a part
pub split_some : (p : ℕ → Bool) (xs : List ℕ) → slice_split p xs ≢ []
split_some p xs e = let n = length-slice_split p xs in let z = ap length e in omega (arith, n, z)
