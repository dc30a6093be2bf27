-- How the loop of the search ends: by a stone that wins, with the budget spent, or with all cells
-- tried.
use Rattle.std.proofs.Common.{◌≡◌, ℕ, ◌+◌, ◌-◌, ◌*◌, ◌<◌, ◌≤◌, true, false, Bool, List, Some}
use Rattle.std.proofs.Common.{length, if◌then◌else◌, sym, ◌∙◌, ap, subst, inl, inr, suc, arith}
use Rattle.std.proofs.lemmas.Bool.{both_ways}
use Rattle.std.proofs.Math.Nat.{mul-le-mul_left}
use Rattle.hex_cells.specs.Colours.{other_of}
use Rattle.hex_cells.specs.Sets.{has, members}
use Rattle.hex_cells.specs.declared.colours.Colour.{Colour}
use Rattle.hex_board.specs.Joined.{cells_of, is_joined}
use Rattle.hex_board.specs.Positions.{Position, is_empty_at, placed, stones_of}
use Rattle.hex_board.specs.Wins.{empty_count}
use Rattle.conn_store.specs.declared.entries.Kind.TheVariants.{Full, Semi}
use Rattle.hex_solve.specs.Deciding.{first, is_for, lines_needed, positions_needed, sum_up_to}
use Rattle.hex_solve.specs.Ledgers.{AnswerAll, CountsBy, GrowsBy, LedgerData, count_of}
use Rattle.hex_solve.specs.PlainSearch.{tree_lines}
use Rattle.hex_cells.proofs.ColourLaws.{other_back}
use Rattle.hex_solve.proofs.NextPositions.{first_other, first_own, lines_after, lines_next, positions_after}
use Rattle.hex_solve.proofs.NextPositions.{wins_by}
use Rattle.hex_solve.proofs.Sums.{sum_none}
use Rattle.hex_solve.proofs.Growing.{grows_wider}
use Rattle.hex_solve.proofs.NobodyJoined.{nobody}
use Rattle.hex_solve.proofs.Trying.{IsTrying, some_fewer, sum_here, sum_left, picked_yes}
use Rattle.hex_solve.proofs.NextPositions.{for_own}

-- the mover wins after a stone on the least cell
pub record Winning (p : Position) (mover : Colour) (most rest m lines : ℕ) : Type 0 where
  pub entered : rest + positions_needed p mover ≡ most + 1
  pub more : 1 + m ≤ positions_needed p mover
  pub first : first p mover ≡ Some mover
  pub after : lines_needed mover p mover ≡ lines + 2

pub trying_won : (p : Position) (mover : Colour) (own start other : LedgerData) (most left rest : ℕ)
    (numbers : List ℕ) (cells k : ℕ) → IsTrying p mover own start other most left numbers cells
    → is_joined p.size (other_of mover) (stones_of p (other_of mover)) ≡ false → has cells k ≡ true
    → ((j : ℕ) → j < k → has cells j ≡ false)
    → rest + positions_needed (placed p mover k) (other_of mover) ≡ left
    → first (placed p mover k) (other_of mover) ≡ Some (other_of (other_of mover))
    → Winning p mover most rest (positions_needed (placed p mover k) (other_of mover))
    (lines_after mover p mover k)
trying_won p mover own start other most left rest numbers cells k w a h n r f =
    let q = placed p mover k in
    let here : is_empty_at p k ≡ true = w.inside k h in
    let m : ℕ = positions_needed q (other_of mover) in
    let mine : first q (other_of mover) ≡ Some mover = f ∙ ap Some (other_back mover) in
    let fell : sum_up_to (has cells) (wins_by p mover) (positions_after p mover) (cells_of p.size) ≡ m =
    sum_here p mover (positions_after p mover) cells k here h n
    ∙ picked_yes (wins_by p mover k) m _ (ap (is_for mover) mine ∙ for_own mover) in
    let (c, e) = some_fewer p k here in
    let won = first_own p mover c k (nobody p mover w.searched.unjoined a) e here mine in
    let lines : sum_left p mover cells (lines_after mover p mover) ≡ lines_after mover p mover k =
    sum_here p mover (lines_after mover p mover) cells k here h n
    ∙ picked_yes (wins_by p mover k) (lines_after mover p mover k) _
    (ap (is_for mover) mine ∙ for_own mover) in
    record {
      entered = entered (positions_needed p mover) left rest m most _ w.sum fell r;
      more = more (positions_needed p mover) left m most _ w.sum fell w.spent;
      first = won;
      after = after (lines_needed mover p mover) _ _ (lines_after mover p mover k)
          (lines_next mover p mover c (nobody p mover w.searched.unjoined a) e won) w.of_mover lines;
    }
  where
    entered : (x b r m a s : ℕ) → x + b ≡ a + 1 + s → s ≡ m → r + m ≡ b → r + x ≡ a + 1
    entered x b r m a s e f g = omega arith

    after : (x all left m : ℕ) → x ≡ 2 + all → left ≡ all → left ≡ m → x ≡ m + 2
    after x all left m e f g = omega (arith, e, f, g)

    more : (x b m a s : ℕ) → x + b ≡ a + 1 + s → s ≡ m → b ≤ a → 1 + m ≤ x
    more x b m a s e f l = omega arith

-- the budget is spent after a stone on the least cell
pub trying_spent : (p : Position) (mover : Colour) (own start other : LedgerData) (most left : ℕ)
    (numbers : List ℕ) (cells k : ℕ) → IsTrying p mover own start other most left numbers cells
    → has cells k ≡ true → ((j : ℕ) → j < k → has cells j ≡ false)
    → left < positions_needed (placed p mover k) (other_of mover) → most + 1 < positions_needed p mover
trying_spent p mover own start other most left numbers cells k w h n l =
    let m : ℕ = positions_needed (placed p mover k) (other_of mover) in
    let here : is_empty_at p k ≡ true = w.inside k h in
    let fell = sum_here p mover (positions_after p mover) cells k here h n in
    over (positions_needed p mover) left m most _ w.sum
    (subst (λ v. m ≤ v) (sym fell) (at_least (wins_by p mover k) m _)) l
  where
    at_least : (t : Bool) (x y : ℕ) → x ≤ (if t then x else x + y)
    at_least true x y = omega arith
    at_least false x y = omega arith

    over : (x b m a s : ℕ) → x + b ≡ a + 1 + s → m ≤ s → b < m → a + 1 < x
    over x b m a s e f l = omega arith

-- all were tried
pub record Losing (p : Position) (mover : Colour) (start other : LedgerData) (most left : ℕ)
    (numbers : List ℕ) : Type 0 where
  pub entered : left + positions_needed p mover ≡ most + 1
  pub grows : GrowsBy (2 * positions_needed p mover - 2) start other
  pub enough : 2 ≤ 2 * positions_needed p mover
  pub answers : AnswerAll other p numbers
  pub few : length numbers ≤ 121
  pub first : first p mover ≡ Some (other_of mover)
  pub short : count_of other + 2 ≤ count_of start + tree_lines Full (empty_count p)
  pub lines : ℕ
  pub counted : CountsBy lines start other
  pub after : lines_needed (other_of mover) p mover ≡ lines + 2

pub trying_done : (p : Position) (mover : Colour) (own start other : LedgerData) (most left : ℕ)
    (numbers : List ℕ) (cells k : ℕ) → IsTrying p mover own start other most left numbers cells
    → is_joined p.size (other_of mover) (stones_of p (other_of mover)) ≡ false
    → is_empty_at p k ≡ true → ((j : ℕ) → has cells j ≡ false)
    → Losing p mover start other most left numbers
trying_done p mover own start other most left numbers cells k w a h n =
    let (c, e) = some_fewer p k h in
    let none : sum_up_to (has cells) (wins_by p mover) (positions_after p mover) (cells_of p.size) ≡ 0
    = sum_none (has cells) (wins_by p mover) (positions_after p mover) 0 (p.size * p.size) n in
    let entered : left + positions_needed p mover ≡ most + 1
    = all_entered (positions_needed p mover) left most _ w.sum none in
    let lost = first_other p mover c k (nobody p mover w.searched.unjoined a) e h
    (λ j i. w.lost j i (n j)) in
    record {
      entered = entered;
      grows = grows_wider (2 * (most - left)) (2 * positions_needed p mover - 2) start other
          (wide (positions_needed p mover) left most entered w.spent) w.grows;
      enough = enough (positions_needed p mover) left most entered w.spent;
      answers = (w.tried, w.answers, λ j i. elim (w.all j i) [ inl o ↦ o | inr o ↦ absurd (both_ways (has cells j) (n j) o) ]);
      few = let l : length numbers + members cells 121 ≤ 121 = w.few in omega arith;
      first = lost;
      short = subst (λ v. count_of other + 2 ≤ count_of start + tree_lines Full v) (sym e)
          (all_short (count_of other) (count_of start) (length numbers) (suc c) (tree_lines Semi c) (w.short c e)
          (subst (λ v. length numbers ≤ v) e (low (length numbers) (members cells (p.size * p.size)) (empty_count p) w.room)));
      lines = w.lines;
      counted = w.counted;
      after = after (lines_needed (other_of mover) p mover) _ _ w.lines
          (lines_next (other_of mover) p mover c (nobody p mover w.searched.unjoined a) e lost) w.of_other
          (sum_none (has cells) (wins_by p mover) (lines_after (other_of mover) p mover) 0
          (p.size * p.size) n);
    }
  where
    after : (x all left m : ℕ) → x ≡ 2 + all → m + left ≡ all → left ≡ 0 → x ≡ m + 2
    after x all left m e f g = omega (arith, e, f, g)

    low : (a b c : ℕ) → a + b ≤ c → a ≤ c
    low a b c l = omega arith

    all_short : (y s n m t : ℕ) → y ≤ s + n * t → n ≤ m → y + 2 ≤ s + (2 + m * t)
    all_short y s n m t l k = let h : t * n ≤ t * m = mul-le-mul_left t k in omega (arith, h)

    all_entered : (x b a s : ℕ) → x + b ≡ a + 1 + s → s ≡ 0 → b + x ≡ a + 1
    all_entered x b a s e f = omega arith

    wide : (x b a : ℕ) → b + x ≡ a + 1 → b ≤ a → 2 * (a - b) ≤ 2 * x - 2
    wide x b a e l = omega arith

    enough : (x b a : ℕ) → b + x ≡ a + 1 → b ≤ a → 2 ≤ 2 * x
    enough x b a e l = omega arith
