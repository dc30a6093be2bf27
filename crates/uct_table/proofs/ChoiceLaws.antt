-- What callers want of Choice and of the child that is preferred.
use Rattle.std.proofs.Common.{◌≡◌, ℕ, suc, ◌+◌, ◌<◌, ◌==◌, Bool, true, false, cond, not, ◌||◌, nat_lt, List, [], ◌∷◌, length, map, refl, arith, inl, inr}
use Rattle.std.specs.List.{position_or_len, list_any}
use Rattle.std.proofs.lemmas.Bool.{cases_lt}
use Rattle.std.proofs.lemmas.Grind.{common_steps}
use Rattle.uct_table.specs.Choice.{Child, is_unvisited, score_in, largest, first_of_largest, choice_of, is_better, kept_from}
use Rattle.uct_table.proofs.Keeping.{first_here, first_later}

-- between children with visits the greater score is preferred
pub is_better-visited : (p c : ℕ) (x y : Child) → 0 < x.visits → 0 < y.visits → is_better p c x y ≡ nat_lt (score_in p c x) (score_in p c y)
unfolding is_better
is_better-visited p c x y some_x some_y =
    let none_x : (x.visits == 0) ≡ false = grind arith in
    let none_y : (y.visits == 0) ≡ false = grind arith in
    rw (none_x, none_y) refl

-- nothing is preferred to a child without visits
pub is_better-first_unvisited : (p c : ℕ) (x y : Child) → x.visits ≡ 0 → is_better p c x y ≡ false
unfolding is_better
is_better-first_unvisited p c x y e = rw e refl

-- a child without visits is preferred to one with visits
pub is_better-second_unvisited : (p c : ℕ) (x y : Child) → 0 < x.visits → y.visits ≡ 0 → is_better p c x y ≡ true
unfolding is_better
is_better-second_unvisited p c x y some_x e = let none_x : (x.visits == 0) ≡ false = grind arith in rw (none_x, e) refl

-- a child without visits is kept to the end
pub kept_from-unvisited : (p c i : ℕ) (x : Child) (j : ℕ) (ys : List Child) → x.visits ≡ 0 → kept_from p c i x j ys ≡ i
kept_from-unvisited p c i x j [] e = refl
kept_from-unvisited p c i x j (y ∷ ys) e = rw (is_better-first_unvisited p c x y e) (kept_from-unvisited p c i x (j + 1) ys e)

any_below : (u b : Bool) (k n : ℕ) → (b ≡ true → k < n) → (u || b) ≡ true → cond (not u) (1 + k) 0 < suc n
any_below true b k n h e = omega arith
any_below false b k n h e = let lt : k < n = h e in omega (arith, lt)

position-lt : (xs : List Child) → list_any is_unvisited xs ≡ true → position_or_len is_unvisited xs < length xs
position-lt [] e = absurd (cc)
position-lt (x ∷ xs) e = any_below (is_unvisited x) (list_any is_unvisited xs) (position_or_len is_unvisited xs) (length xs) (position-lt xs) e

first_of_largest-lt : (n : ℕ) (ns : List ℕ) → first_of_largest (n ∷ ns) < length ns + 1
first_of_largest-lt n [] = rw (first_here n [] (omega arith)) (omega arith)
first_of_largest-lt n (m ∷ ns) = elim (cases_lt n (largest (m ∷ ns))) [
  | inl lt ↦ let more = first_of_largest-lt m ns in rw (first_later n (m ∷ ns) lt) (omega (arith, more))
  | inr ge ↦ rw (first_here n (m ∷ ns) ge) (omega arith)
]

one_of : (b : Bool) (k m n : ℕ) → (b ≡ true → k < n) → m < n → cond b k m < n
one_of true k m n h lt = h refl
one_of false k m n h lt = lt

map_length : (p c : ℕ) (xs : List Child) → length (map (score_in p c) xs) ≡ length xs
map_length p c xs = grind (arith, common_steps)

-- Choice is a place of the list
pub choice_of-lt : (p c : ℕ) (x : Child) (xs : List Child) → choice_of p c (x ∷ xs) < length (x ∷ xs)
unfolding choice_of
choice_of-lt p c x xs =
    let last : first_of_largest (map (score_in p c) (x ∷ xs)) < length xs
    + 1 = rw (← map_length p c xs) (first_of_largest-lt (score_in p c x) (map (score_in p c) xs)) in
    let within : first_of_largest (map (score_in p c) (x ∷ xs)) < suc (length xs) = omega (arith, last) in
    one_of (list_any is_unvisited (x ∷ xs)) (position_or_len is_unvisited (x
    ∷ xs)) (first_of_largest (map (score_in p c) (x ∷ xs))) (suc (length xs)) (position-lt (x ∷ xs)) within
