-- The part of a list that a read moves.
use Rattle.std.proofs.Common.{◌≡◌, ◌+◌, ◌-◌, ◌≤◌, ℕ, List, length, take, drop, ◌++◌, ap, ◌∙◌, subst}
use Rattle.std.proofs.Common.{arith, sym}
use Rattle.std.proofs.lemmas.Grind.{common_steps}
use Rattle.std.proofs.Math.Seq.{take-append_seam}
use Rattle.std.proofs.lemmas.List.{take-append-drop, drop-drop}

pub drop_parts : (xs : List ℕ) (i n : ℕ) → drop i xs ≡ take n (drop i xs) ++ drop (i + n) xs
drop_parts xs i n = sym (take-append-drop n (drop i xs))
    ∙ ap (λ l. take n (drop i xs) ++ l) (drop-drop n i xs)

-- what was copied to the front is the part
pub copied_front : (xs copied rest : List ℕ) (i n : ℕ) → i + n ≤ length xs
    → copied ≡ take (i + n - i) (drop i xs) → take n (copied ++ rest) ≡ take n (drop i xs)
copied_front xs copied rest i n fits e =
    let same : i + n - i ≡ n = omega arith in
    let len : length (take n (drop i xs)) ≡ n = grind (arith, common_steps) in
    let is_part : copied ≡ take n (drop i xs) = rw (← same) e in
    rw is_part (subst (λ k. take k (take n (drop i xs) ++ rest) ≡ take n (drop i xs)) len (take-append_seam _ rest))
