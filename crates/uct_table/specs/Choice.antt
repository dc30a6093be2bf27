-- The child that is chosen.
use Rattle.std.specs.Prelude.{ℕ, ◌+◌, ◌==◌, Bool, not, ◌&&◌, ◌||◌, nat_lt, List, [], ◌∷◌, max, map}
use Rattle.std.specs.Prelude.{if◌then◌else◌}
use Rattle.std.specs.List.{position_or_len, list_any}
use Rattle.uct_table.specs.Scores.{score_of}

-- what the scores of one block's children have in common: their parent's visits, the weight, and a
-- factor that bounds their bonus
pub record ParentData : Type 0 where
  pub visits : ℕ
  pub weight : ℕ
  pub factor : ℕ

-- a child's counts
pub record Child : Type 0 where
  pub visits : ℕ
  pub wins : ℕ
  pub seen : ℕ
  pub seen_wins : ℕ

-- the child with these visits, wins, seen visits and seen wins
abbrev pub child_with : ℕ → ℕ → ℕ → ℕ → Child
child_with v w a b = record { visits = v; wins = w; seen = a; seen_wins = b }

abbrev pub is_unvisited : Child → Bool
is_unvisited x = x.visits == 0

-- the score of a child with visits, below p visits, with the weight c
abbrev pub score_in : ℕ → ℕ → Child → ℕ
score_in p c x = score_of p x.visits x.wins x.seen x.seen_wins c

-- the greatest of these numbers, or 0
abbrev pub largest : List ℕ → ℕ
largest [] = 0
largest (n ∷ ns) = max n (largest ns)

-- the first place of the greatest number
abbrev pub first_of_largest : List ℕ → ℕ
first_of_largest ns = position_or_len (λ n. n == largest ns) ns

-- Choice: the first place without visits, or else the first place of the greatest score
unfoldable pub choice_of : ℕ → ℕ → List Child → ℕ
choice_of p c xs =
    if list_any is_unvisited xs then position_or_len is_unvisited xs
    else first_of_largest (map (score_in p c) xs)

-- the second child is strictly preferred: the first has visits, and the second has none or a
-- greater score
unfoldable pub is_better : ℕ → ℕ → Child → Child → Bool
is_better p c x y =
    not (is_unvisited x) && (is_unvisited y || nat_lt (score_in p c x) (score_in p c y))

-- The place that is kept when one goes through children from place j on: the child x of place i is
-- kept so far, and a child that is preferred to it takes its turn.
abbrev pub kept_from : ℕ → ℕ → ℕ → Child → ℕ → List Child → ℕ
kept_from p c i x j [] = i
kept_from p c i x j (y ∷ ys) =
    if is_better p c x y then kept_from p c j y (j + 1) ys else kept_from p c i x (j + 1) ys

-- going through a list from its first child on
abbrev pub kept_of : ℕ → ℕ → List Child → ℕ
kept_of p c [] = 0
kept_of p c (x ∷ xs) = kept_from p c 0 x 1 xs
