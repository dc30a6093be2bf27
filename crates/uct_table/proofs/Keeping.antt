-- Going through a list of children keeps the one of Choice.
use Rattle.std.proofs.Common.{◌≡◌, ℕ, ◌+◌, ◌<◌, ◌≤◌, ◌==◌, Bool, true, false, cond, not, ◌&&◌, ◌||◌}
use Rattle.std.proofs.Common.{nat_lt, List, [], ◌∷◌, max, map, refl, ap, ◌∙◌, arith, inl, inr}
use Rattle.std.specs.List.{position_or_len, list_any}
use Rattle.std.proofs.lemmas.Bool.{cases_lt}
use Rattle.uct_table.specs.Choice.{Child, is_unvisited, score_in, largest, first_of_largest, choice_of, is_better, kept_from, kept_of}

-- the place kept at the end, if child i with this score is kept so far and these stand from j on
abbrev kept_at : Bool → ℕ → ℕ → ℕ → Bool → ℕ → List ℕ → ℕ
kept_at true i j score any first scores = i
kept_at false i j score true first scores = j + first
kept_at false i j score false first scores = cond (nat_lt score (largest scores)) (j + first_of_largest scores) i

kept_at-none : (unvisited : Bool) (i j score : ℕ) → i ≡ kept_at unvisited i j score false 0 []
kept_at-none true i j score = refl
kept_at-none false i j score = grind arith

pub first_here : (n : ℕ) (ns : List ℕ) → largest ns ≤ n → first_of_largest (n ∷ ns) ≡ 0
first_here n ns le = let top : max n (largest ns) ≡ n = omega arith in rw top (grind arith)

skip_one : (n top : ℕ) (ns : List ℕ) → n < top → position_or_len (λ m. m == top) (n ∷ ns) ≡ 1 + position_or_len (λ m. m == top) ns
skip_one n top ns lt = let other : (n == top) ≡ false = grind arith in rw other refl

pub first_later : (n : ℕ) (ns : List ℕ) → n < largest ns → first_of_largest (n ∷ ns) ≡ 1 + first_of_largest ns
first_later n ns lt =
    let top : max n (largest ns) ≡ largest ns = omega arith in
    ap (λ t. position_or_len (λ m. m == t) (n ∷ ns)) top ∙ skip_one n (largest ns) ns lt

-- x is the greatest score so far, at place i; y stands at place j, and these scores after it
pub two_scores : (i j x y : ℕ) (ns : List ℕ)
    → cond (nat_lt x y) (cond (nat_lt y (largest ns)) ((j + 1) + first_of_largest ns) j) (cond (nat_lt x (largest ns)) ((j + 1) + first_of_largest ns) i)
    ≡ cond (nat_lt x (max y (largest ns))) (j + first_of_largest (y ∷ ns)) i
two_scores i j x y ns = elim (cases_lt y (largest ns)) [
  | inl lt ↦ rw (first_later y ns lt) (grind arith)
  | inr ge ↦ rw (first_here y ns ge) (grind arith)
]

kept_at-more : (none_x none_y : Bool) (i j x y : ℕ) (any : Bool) (first : ℕ) (ns : List ℕ)
    → cond (not none_x && (none_y || nat_lt x y)) (kept_at none_y j (j + 1) y any first ns) (kept_at none_x i (j + 1) x any first ns)
    ≡ kept_at none_x i j x (none_y || any) (cond (not none_y) (1 + first) 0) (y ∷ ns)
kept_at-more true none_y i j x y any first ns = refl
kept_at-more false true i j x y any first ns = grind arith
kept_at-more false false i j x y true first ns = grind arith
kept_at-more false false i j x y false first ns = two_scores i j x y ns

kept_from_is : (p c i : ℕ) (x : Child) (j : ℕ) (ys : List Child)
    → kept_from p c i x j ys ≡ kept_at (is_unvisited x) i j (score_in p c x) (list_any is_unvisited ys) (position_or_len is_unvisited ys)
    (map (score_in p c) ys)
unfolding is_better
kept_from_is p c i x j [] = kept_at-none (is_unvisited x) i j (score_in p c x)
kept_from_is p c i x j (y ∷ ys) =
    rw (kept_from_is p c j y (j + 1) ys, kept_from_is p c i x (j + 1) ys)
    (kept_at-more (is_unvisited x) (is_unvisited y) i j (score_in p c x) (score_in p c y) (list_any is_unvisited ys) (position_or_len is_unvisited ys)
    (map (score_in p c) ys))

kept_at-first : (none_x : Bool) (x : ℕ) (any : Bool) (first : ℕ) (ns : List ℕ)
    → kept_at none_x 0 1 x any first ns ≡ cond (none_x || any) (cond (not none_x) (1 + first) 0) (first_of_largest (x ∷ ns))
kept_at-first true x any first ns = refl
kept_at-first false x true first ns = refl
kept_at-first false x false first ns = elim (cases_lt x (largest ns)) [
  | inl lt ↦ rw (first_later x ns lt) (grind arith)
  | inr ge ↦ rw (first_here x ns ge) (grind arith)
]

pub kept_of_is : (p c : ℕ) (xs : List Child) → kept_of p c xs ≡ choice_of p c xs
unfolding choice_of
kept_of_is p c [] = refl
kept_of_is p c (x ∷ xs) = kept_from_is p c 0 x 1 xs ∙ kept_at-first (is_unvisited x) (score_in p c x) (list_any is_unvisited xs)
    (position_or_len is_unvisited xs) (map (score_in p c) xs)
