-- The loop of the search: the cells that were tried, and what is known of them.
use Rattle.std.proofs.Common.{◌≡◌, ℕ, ◌+◌, ◌-◌, ◌*◌, ◌<◌, ◌≤◌, ◌==◌, ◌&&◌, ◌⊎◌, not, true, false}
use Rattle.std.proofs.Common.{Bool, List, [], ◌∷◌, ◌++◌, Some, length, if◌then◌else◌, refl, sym}
use Rattle.std.proofs.Common.{◌∙◌, ap, subst, inl, inr, suc, arith}
use Rattle.std.proofs.lemmas.Bool.{both_ways, cases_eq, false≢true, true≢false}
use Rattle.std.proofs.lemmas.Bool.Decides.{nat_tests}
use Rattle.std.proofs.Math.Nat.{suc_inj}
use Rattle.hex_cells.specs.Colours.{other_of}
use Rattle.hex_cells.specs.Sets.{has, members, without_cell}
use Rattle.hex_cells.specs.declared.colours.Colour.{Colour}
use Rattle.hex_cells.specs.declared.colours.Colour.TheVariants.{Black}
use Rattle.hex_cells.proofs.Bits.{has_without}
use Rattle.hex_board.specs.Elements.{PlayerBoard}
use Rattle.hex_board.specs.Joined.{cells_of, is_joined}
use Rattle.hex_board.specs.Positions.{Position, is_empty_at, placed, stones_of}
use Rattle.hex_board.specs.Wins.{empty_count}
use Rattle.hex_board.proofs.Placed.{empty_on, placed_other, placed_size}
use Rattle.hex_board.proofs.WinLaws.{one_empty_less}
use Rattle.hex_cells.proofs.Counts.{members_few, members_less, members_test}
use Rattle.conn_store.proofs.Sureness.{in_without, without_inside, without_itself}
use Rattle.conn_store.specs.declared.entries.Kind.TheVariants.{Semi}
use Rattle.win_cert.proofs.CutDerivations.{longer}
use Rattle.hex_solve.specs.Deciding.{first, is_for, lines_needed, positions_needed, sum_up_to}
use Rattle.hex_solve.specs.Ledgers.{AreAnswers, CountsBy, GrowsBy, IsAmong, LedgerData, ShowsWin}
use Rattle.hex_solve.specs.Ledgers.{count_of}
use Rattle.hex_solve.specs.PlainSearch.{IsPairOfLedgers, tree_lines}
use Rattle.win_cert.specs.Showing.{Keeps}
use Rattle.hex_cells.proofs.ColourLaws.{other_back}
use Rattle.hex_solve.proofs.LedgerLaws.{counts_on, grows_none, grows_on}
use Rattle.hex_solve.proofs.NextPositions.{for_other, lines_after, lines_lost, positions_after, positions_next}
use Rattle.hex_solve.proofs.NextPositions.{wins_by}
use Rattle.hex_solve.proofs.Sums.{sum_cells, sum_least}
use Rattle.win_cert.proofs.Reaching.{keeps_on}
use Rattle.hex_solve.proofs.Growing.{among_left, among_last, answers_more, answers_on, grows_wider}
use Rattle.hex_solve.proofs.NobodyJoined.{nobody}

-- ---- the child

pub child_searched : (p : Position) (mover : Colour) (own other : LedgerData) (k : ℕ)
    → IsPairOfLedgers p mover own other
    → is_joined p.size (other_of mover) (stones_of p (other_of mover)) ≡ false
    → is_empty_at p k ≡ true → IsPairOfLedgers (placed p mover k) (other_of mover) other own
child_searched p mover own other k s a h = record {
  own_player = s.other_player;
  other_player = s.own_player ∙ sym (other_back mover);
  board = sym s.board;
  keeps = subst (λ (b : Position). Keeps b (placed p mover k)) (sym s.board)
      (keeps_on own.base.board p mover k s.keeps h);
  unjoined = ap (λ n. is_joined n (other_of mover) (stones_of (placed p mover k) (other_of mover)))
      (placed_size p mover k)
      ∙ (ap (λ v. is_joined p.size (other_of mover) v) (placed_other p mover k) ∙ a);
}

-- ---- the loop

-- the sum over these cells, of those after which the search goes on
abbrev pub sum_left : Position → Colour → ℕ → (ℕ → ℕ) → ℕ
sum_left p mover cells f = sum_up_to (has cells) (wins_by p mover) f (cells_of p.size)

-- the same over all empty cells
abbrev pub sum_all : Position → Colour → (ℕ → ℕ) → ℕ
sum_all p mover f = sum_up_to (is_empty_at p) (wins_by p mover) f (cells_of p.size)

-- the cells that are left to be tried; each other one was answered
pub record IsTrying (p : Position) (mover : Colour) (own first_other other : LedgerData)
    (most left : ℕ) (numbers : List ℕ) (cells : ℕ) : Type 0 where
  pub searched : IsPairOfLedgers p mover own other
  pub grows : GrowsBy (2 * (most - left)) first_other other
  pub spent : left ≤ most
  pub sum : positions_needed p mover + left ≡ most + 1 + sum_up_to (has cells) (wins_by p mover)
      (positions_after p mover) (cells_of p.size)
  pub tried : List ℕ
  pub answers : AreAnswers other p numbers tried
  pub all : (k : ℕ) → is_empty_at p k ≡ true → IsAmong k tried ⊎ (has cells k ≡ true)
  pub lost : (k : ℕ) → is_empty_at p k ≡ true → has cells k ≡ false
      → first (placed p mover k) (other_of mover) ≡ Some (other_of mover)
  pub inside : (k : ℕ) → has cells k ≡ true → is_empty_at p k ≡ true
  pub few : length numbers + members cells 121 ≤ 121
  pub room : length numbers + members cells (p.size * p.size) ≤ empty_count p
  pub short : (m : ℕ) → empty_count p ≡ suc m
      → count_of other ≤ count_of first_other + length numbers * tree_lines Semi m
  pub lines : ℕ
  pub counted : CountsBy lines first_other other
  pub of_other : lines + sum_left p mover cells (lines_after (other_of mover) p mover)
      ≡ sum_all p mover (lines_after (other_of mover) p mover)
  pub of_mover : sum_left p mover cells (lines_after mover p mover)
      ≡ sum_all p mover (lines_after mover p mover)

pub some_fewer : (p : Position) (k : ℕ) → is_empty_at p k ≡ true → (n : ℕ) × (empty_count p ≡ suc n)
some_fewer p k h = (empty_count (placed p Black k), one_empty_less p Black k h)

pub trying_begun : (p : Position) (mover : Colour) (own other : LedgerData) (left cells k : ℕ)
    → IsPairOfLedgers p mover own other
    → is_joined p.size (other_of mover) (stones_of p (other_of mover)) ≡ false
    → is_empty_at p k ≡ true → ((j : ℕ) → has cells j ≡ is_empty_at p j)
    → IsTrying p mover own other other left left [] cells
trying_begun p mover own other left cells k s a h e =
    let (n, c) = some_fewer p k h in
    let q : positions_needed p mover ≡ 1 + sum_up_to (is_empty_at p) (wins_by p mover) (positions_after p mover)
    (cells_of p.size) = positions_next p mover n (nobody p mover s.unjoined a) c in
    let r : sum_up_to (is_empty_at p) (wins_by p mover) (positions_after p mover)
    (cells_of p.size) ≡ sum_up_to (has cells) (wins_by p mover) (positions_after p mover)
    (cells_of p.size) =
    sum_cells (is_empty_at p) (has cells) (wins_by p mover) (positions_after p mover) 0 (p.size * p.size)
    (λ j l. sym (e j)) in
    let none : 0 ≡ 2 * (left - left) = omega arith in
    record {
      searched = s;
      grows = subst (λ v. GrowsBy v other other) none (grows_none other);
      spent = omega arith;
      sum = told (positions_needed p mover) left _ _ q r;
      tried = [];
      answers = tt;
      all = λ j i. inr (e j ∙ i);
      lost = λ j i o. absurd (both_ways (has cells j) o (e j ∙ i));
      inside = λ j i. sym (e j) ∙ i;
      few = let m : members cells 121 ≤ 121 = members_few cells 121 in omega arith;
      room = let m : members cells (p.size * p.size) ≡ empty_count p = members_test cells
          (is_empty_at p) (p.size * p.size) e in omega arith;
      short = λ m f. omega arith;
      lines = 0;
      counted = λ z. omega arith;
      of_other = from_none _ _ (sum_cells (has cells) (is_empty_at p) (wins_by p mover)
          (lines_after (other_of mover) p mover) 0 (p.size * p.size) (λ j l. e j));
      of_mover = sum_cells (has cells) (is_empty_at p) (wins_by p mover)
          (lines_after mover p mover) 0 (p.size * p.size) (λ j l. e j);
    }
  where
    from_none : (x y : ℕ) → x ≡ y → 0 + x ≡ y
    from_none x y e = omega (arith, e)

    told : (n l x y : ℕ) → n ≡ 1 + x → x ≡ y → n + l ≡ l + 1 + y
    told n l x y q r = omega arith

pub picked_no : (t : Bool) (x y : ℕ) → t ≡ false → (if t then x else x + y) ≡ x + y
picked_no true x y h = absurd (true≢false h)
picked_no false x y h = refl

pub picked_yes : (t : Bool) (x y : ℕ) → t ≡ true → (if t then x else x + y) ≡ x
picked_yes true x y h = refl
picked_yes false x y h = absurd (false≢true h)

pub sum_here : (p : Position) (mover : Colour) (f : ℕ → ℕ) (cells k : ℕ) → is_empty_at p k ≡ true
    → has cells k ≡ true → ((j : ℕ) → j < k → has cells j ≡ false)
    → sum_left p mover cells f
    ≡ (if wins_by p mover k then f k else f k + sum_left p mover (without_cell cells k) f)
sum_here p mover f cells k h i n = sum_least cells k (wins_by p mover) f 0 (p.size * p.size)
    (omega arith) (omega (arith, empty_on p k h)) i n

-- the other wins after a stone on the least cell
pub trying_on : (p : Position) (mover : Colour) (own start other next : LedgerData)
    (most left rest : ℕ) (numbers : List ℕ) (cells k i : ℕ)
    → IsTrying p mover own start other most left numbers cells
    → has cells k ≡ true → ((j : ℕ) → j < k → has cells j ≡ false) → k < 121
    → rest + positions_needed (placed p mover k) (other_of mover) ≡ left
    → GrowsBy (2 * positions_needed (placed p mover k) (other_of mover)) other next
    → ShowsWin next (placed p mover k) Semi i → first (placed p mover k) (other_of mover) ≡ Some
    (other_of mover)
    → count_of next ≤ count_of other + tree_lines Semi (empty_count (placed p mover k))
    → CountsBy (lines_after (other_of mover) p mover k) other next
    → IsTrying p mover own start next most rest (numbers ++ i ∷ []) (without_cell cells k)
trying_on p mover own start other next most left rest numbers cells k i w h n l r g s f b x =
    let q = placed p mover k in
    let here : is_empty_at p k ≡ true = w.inside k h in
    let m : ℕ = positions_needed q (other_of mover) in
    let fell : sum_up_to (has cells) (wins_by p mover) (positions_after p mover)
    (cells_of p.size) ≡ m + sum_up_to (has (without_cell cells k)) (wins_by p mover)
    (positions_after p mover) (cells_of p.size) =
    sum_here p mover (positions_after p mover) cells k here h n
    ∙ picked_no (wins_by p mover k) m _ (ap (is_for mover) f ∙ for_other mover) in
    let fell_to : (c : Colour) → sum_left p mover cells (lines_after c p mover)
    ≡ lines_after c p mover k + sum_left p mover (without_cell cells k)
    (lines_after c p mover) = λ c.
    sum_here p mover (lines_after c p mover) cells k here h n
    ∙ picked_no (wins_by p mover k) (lines_after c p mover k) _
    (ap (is_for mover) f ∙ for_other mover) in
    let none : lines_after mover p mover k ≡ 0 =
    lines_lost mover q (other_of mover) (ap (is_for mover) f ∙ for_other mover) in
    let player : other_of next.base.player ≡ mover
    = ap (λ (b : PlayerBoard). other_of b.player) g.base
    ∙ (ap other_of w.searched.other_player ∙ other_back mover) in
    record {
      searched = record {
        own_player = w.searched.own_player;
        other_player = ap (λ (b : PlayerBoard). b.player) g.base ∙ w.searched.other_player;
        board = ap (λ (b : PlayerBoard). b.board) g.base ∙ w.searched.board;
        keeps = w.searched.keeps;
        unjoined = w.searched.unjoined;
      };
      grows = grows_wider (2 * (most - left) + 2 * m) (2 * (most - rest)) start next
          (wide most left rest m w.spent r)
          (grows_on (2 * (most - left)) (2 * m) start other next w.grows g);
      spent = less most left rest m w.spent r;
      sum = summed (positions_needed p mover) left rest m most _ _ w.sum fell r;
      tried = w.tried ++ k ∷ [];
      answers = answers_more next p numbers w.tried i k
          (answers_on (2 * m) other next p numbers w.tried g w.answers)
          (subst (λ (c : Colour). ShowsWin next (placed p c k) Semi i) (sym player) s) here;
      all = λ j e. elim (w.all j e) [
        | inl o ↦ inl (among_left j k w.tried o)
        | inr o ↦ elim (cases_eq j k) [
          | inl t ↦ inl (subst (λ v. IsAmong v (w.tried ++ k ∷ [])) (sym t) (among_last k w.tried))
          | inr t ↦ inr (has_without cells k j ∙ kept (has cells j) j k o t)
        ]
      ];
      lost = λ j e o. elim (cases_eq j k) [
        | inl t ↦ ap (λ v. first (placed p mover v) (other_of mover)) t ∙ f
        | inr t ↦ w.lost j e
            (gone (has cells j) (has (without_cell cells k) j) j k (has_without cells k j) o t)
      ];
      inside = λ j e. w.inside j (in_without cells k j e).0;
      few = counted (length numbers) (members cells 121) (members (without_cell cells k) 121)
          (length (numbers ++ i ∷ [])) w.few
          (members_less (without_cell cells k) cells k 121 (without_inside cells k) h (without_itself cells k) l) (longer numbers i);
      room = counted_in (empty_count p) (length numbers) (members cells (p.size * p.size))
          (members (without_cell cells k) (p.size * p.size)) (length (numbers ++ i ∷ [])) w.room
          (members_less (without_cell cells k) cells k (p.size * p.size) (without_inside cells k) h (without_itself cells k) (empty_on p k here))
          (longer numbers i);
      short = λ c e.
          let o : empty_count (placed p mover k) ≡ c
          = suc_inj (sym (one_empty_less p mover k here) ∙ e) in
          subst (λ v. count_of next ≤ count_of start + v * tree_lines Semi c)
          (sym (longer numbers i))
          (longer_by (count_of next) (count_of other) (count_of start) (length numbers) (tree_lines Semi c)
          (subst (λ v. count_of next ≤ count_of other + tree_lines Semi v) o b) (w.short c e));
      lines = w.lines + lines_after (other_of mover) p mover k;
      counted = counts_on w.lines
          (lines_after (other_of mover) p mover k) start other next g.lost w.counted x;
      of_other = taken w.lines (lines_after (other_of mover) p mover k) _ _ _
          (fell_to (other_of mover)) w.of_other;
      of_mover = kept_sum (lines_after mover p mover k) _ _ _ none (fell_to mover) w.of_mover;
    }
  where
    wide : (a b r m : ℕ) → b ≤ a → r + m ≡ b → 2 * (a - b) + 2 * m ≤ 2 * (a - r)
    wide a b r m l e = omega arith

    less : (a b r m : ℕ) → b ≤ a → r + m ≡ b → r ≤ a
    less a b r m l e = omega arith

    summed : (x b r m a s v : ℕ) → x + b ≡ a + 1 + s → s ≡ m + v → r + m ≡ b → x + r ≡ a + 1 + v
    summed x b r m a s v e f g = omega arith

    kept : (b : Bool) (j k : ℕ) → b ≡ true → (j ≡ k → ⊥) → (b && not (j == k)) ≡ true
    kept b j k h n = grind (arith, nat_tests)

    gone : (b e : Bool) (j k : ℕ) → e ≡ (b && not (j == k)) → e ≡ false → (j ≡ k → ⊥) → b ≡ false
    gone b e j k h o n = grind (arith, nat_tests)

    counted : (a b c d : ℕ) → a + b ≤ 121 → c < b → d ≡ a + 1 → d + c ≤ 121
    counted a b c d l m e = omega arith

    counted_in : (z a b c d : ℕ) → a + b ≤ z → c < b → d ≡ a + 1 → d + c ≤ z
    counted_in z a b c d l m e = omega arith

    taken : (n x a b c : ℕ) → a ≡ x + b → n + a ≡ c → (n + x) + b ≡ c
    taken n x a b c e f = omega (arith, e, f)

    kept_sum : (x a b c : ℕ) → x ≡ 0 → a ≡ x + b → a ≡ c → b ≡ c
    kept_sum x a b c e f g = omega (arith, e, f, g)

    longer_by : (x y s n t : ℕ) → x ≤ y + t → y ≤ s + n * t → x ≤ s + (n + 1) * t
    longer_by x y s n t l m = grind arith
