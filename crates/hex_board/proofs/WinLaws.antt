-- Who wins, by one stone more.
use Rattle.std.proofs.Common.{◌≡◌, ℕ, ◌+◌, ◌*◌, ◌<◌, ◌≤◌, ◌==◌, ◌&&◌, not, true, false, Bool, cond}
use Rattle.std.proofs.Common.{refl, sym, ◌∙◌, ap, subst, arith, inl, inr, ◌⊎◌, zero, suc}
use Rattle.std.specs.List.{count_by, range_with_len}
use Rattle.std.proofs.Math.Nat.{suc_inj}
use Rattle.std.proofs.lemmas.Bool.{cases_eq}
use Rattle.std.proofs.lemmas.Bool.Decides.{nat_tests}
use Rattle.std.proofs.lemmas.List.Sums.{sum_by-cons}
use Rattle.hex_cells.specs.Colours.{other_of}
use Rattle.hex_cells.specs.declared.colours.Colour.{Colour}
use Rattle.hex_cells.specs.declared.colours.Colour.TheVariants.{Black, White}
use Rattle.hex_board.specs.Joined.{Joined, cells_of}
use Rattle.hex_board.specs.Positions.{Position, stones_of, is_empty_at, placed}
use Rattle.hex_board.specs.Wins.{empty_count, WinsIn, Wins}
use Rattle.hex_board.proofs.Search.{joined_found, joined_out}
use Rattle.hex_board.proofs.Placed.{empty_on, placed_leaves, placed_size}

-- ---- counts

pub counted : (p : ℕ → Bool) (a m : ℕ)
    → count_by p (range_with_len a (suc m)) ≡ cond (p a) 1 0 + count_by p (range_with_len (a + 1) m)
counted p a m = sum_by-cons (λ x. cond (p x) 1 0) a (range_with_len (a + 1) m)

same_test : (x y : Bool) (j k : ℕ) → y ≡ (x && not (j == k)) → (j ≡ k → ⊥) → x ≡ y
same_test x y j k e n = grind (arith, nat_tests)

gone : (x y : Bool) (k : ℕ) → y ≡ (x && not (k == k)) → y ≡ false
gone x y k e = grind (arith, nat_tests)

same_counts : (p q : ℕ → Bool) (k a m : ℕ) → k < a → ((j : ℕ) → q j ≡ (p j && not (j == k)))
    → count_by p (range_with_len a m) ≡ count_by q (range_with_len a m)
same_counts p q k a zero l f = refl
same_counts p q k a (suc m) l f =
    let t : p a ≡ q a = same_test (p a) (q a) a k (f a) (λ e. omega arith) in
    counted p a m ∙ (ap (λ v. cond v 1 0 + count_by p (range_with_len (a + 1) m)) t
    ∙ (ap (λ v. cond (q a) 1 0 + v) (same_counts p q k (a + 1) m (omega arith) f) ∙ sym (counted q a m)))

one_of : (x y : Bool) (c d : ℕ) → x ≡ true → y ≡ false → c ≡ d
    → cond {A = ℕ} x 1 0 + c ≡ suc (cond {A = ℕ} y 1 0 + d)
one_of x y c d e f g = rw (e, f, g) (omega arith)

none_of : (x y : Bool) (c d : ℕ) → x ≡ y → c ≡ suc d
    → cond {A = ℕ} x 1 0 + c ≡ suc (cond {A = ℕ} y 1 0 + d)
none_of x y c d e f = rw (e, f) (omega arith)

one_less : (p q : ℕ → Bool) (k a m : ℕ) → a ≤ k → k < a + m → p k ≡ true
    → ((j : ℕ) → q j ≡ (p j && not (j == k)))
    → count_by p (range_with_len a m) ≡ suc (count_by q (range_with_len a m))
one_less p q k a zero l b h f = absurd (omega arith)
one_less p q k a (suc m) l b h f = elim (cases_eq a k) [
  | inl e ↦ counted p a m
      ∙ (one_of (p a) (q a) (count_by p (range_with_len (a + 1) m)) (count_by q (range_with_len (a + 1) m)) (ap p e ∙ h) (ap q e
      ∙ gone (p k) (q k) k (f k)) (same_counts p q k (a + 1) m (omega arith) f)
      ∙ ap suc (sym (counted q a m)))
  | inr n ↦ counted p a m
      ∙ (none_of (p a) (q a) (count_by p (range_with_len (a + 1) m)) (count_by q (range_with_len (a
      + 1) m)) (same_test (p a) (q a) a k (f a) n) (one_less p q k (a + 1) m (omega arith) (omega arith) h f)
      ∙ ap suc (sym (counted q a m)))
]

-- one stone more leaves one empty cell less
pub one_empty_less : (p : Position) (player : Colour) (k : ℕ) → is_empty_at p k ≡ true
    → empty_count p ≡ suc (empty_count (placed p player k))
one_empty_less p player k h =
    let l : k < p.size * p.size = empty_on p k h in
    one_less (is_empty_at p) (is_empty_at (placed p player k)) k 0 (p.size * p.size) (omega arith)
    (omega arith) h (placed_leaves p player k)
    ∙ ap (λ n. suc (count_by (is_empty_at (placed p player k)) (cells_of n)))
    (sym (placed_size p player k))

-- ---- wins

joined_in : (fuel : ℕ) (player : Colour) (p : Position) (mover : Colour)
    → Joined p.size player (stones_of p player) → WinsIn fuel player p mover
joined_in zero player p mover j = joined_found p.size player (stones_of p player) j
joined_in (suc fuel) player p mover j = inl (joined_found p.size player (stones_of p player) j)

pub joined_wins : (player : Colour) (p : Position) (mover : Colour)
    → Joined p.size player (stones_of p player) → Wins player p mover
joined_wins player p mover j = joined_in (empty_count p) player p mover j

own_in : (fuel : ℕ) (player : Colour) (p : Position) (k : ℕ) → is_empty_at p k ≡ true
    → WinsIn fuel player (placed p player k) (other_of player) → WinsIn (suc fuel) player p player
own_in fuel Black p k h w = inr (k, h, w)
own_in fuel White p k h w = inr (k, h, w)

pub own_wins : (player : Colour) (p : Position) (k : ℕ) → is_empty_at p k ≡ true
    → Wins player (placed p player k) (other_of player) → Wins player p player
own_wins player p k h w = subst (λ n. WinsIn n player p player) (sym (one_empty_less p player k h))
    (own_in (empty_count (placed p player k)) player p k h w)

other_in : (fuel : ℕ) (player : Colour) (p : Position) (k : ℕ) → is_empty_at p k ≡ true
    → ((j : ℕ) → is_empty_at p j ≡ true → WinsIn fuel player (placed p (other_of player) j) player)
    → WinsIn (suc fuel) player p (other_of player)
other_in fuel Black p k h w = inr ((k, h), w)
other_in fuel White p k h w = inr ((k, h), w)

pub other_wins : (player : Colour) (p : Position) (k : ℕ) → is_empty_at p k ≡ true
    → ((j : ℕ) → is_empty_at p j ≡ true → Wins player (placed p (other_of player) j) player)
    → Wins player p (other_of player)
other_wins player p k h w =
    let e = one_empty_less p (other_of player) k h in
    subst (λ n. WinsIn n player p (other_of player)) (sym e)
    (other_in (empty_count (placed p (other_of player) k)) player p k h
    (λ j i. subst (λ n. WinsIn n player (placed p (other_of player) j) player) (suc_inj (sym (one_empty_less p (other_of player) j i) ∙ e)) (w j i)))

-- ---- and what a win means

own_out : (fuel : ℕ) (player : Colour) (p : Position) → empty_count p ≡ fuel
    → WinsIn fuel player p player
    → Joined p.size player
    (stones_of p player) ⊎ ((k : ℕ) × (is_empty_at p k ≡ true) × Wins player (placed p player k) (other_of player))
own_out zero player p e w = inl (joined_out p.size player (stones_of p player) w)
own_out (suc fuel) player p e (inl j) = inl (joined_out p.size player (stones_of p player) j)
own_out (suc fuel) Black p e (inr (k, h, w))
    = inr (k, h, subst (λ n. WinsIn n Black (placed p Black k) White) (suc_inj (sym e ∙ one_empty_less p Black k h)) w)
own_out (suc fuel) White p e (inr (k, h, w))
    = inr (k, h, subst (λ n. WinsIn n White (placed p White k) Black) (suc_inj (sym e ∙ one_empty_less p White k h)) w)

pub own_means : (player : Colour) (p : Position) → Wins player p player
    → Joined p.size player
    (stones_of p player) ⊎ ((k : ℕ) × (is_empty_at p k ≡ true) × Wins player (placed p player k) (other_of player))
own_means player p w = own_out (empty_count p) player p refl w

other_out : (fuel : ℕ) (player : Colour) (p : Position) → empty_count p ≡ fuel
    → WinsIn fuel player p (other_of player)
    → Joined p.size player
    (stones_of p player) ⊎ (((k : ℕ) × (is_empty_at p k ≡ true)) × ((j : ℕ) → is_empty_at p j ≡ true → Wins player (placed p (other_of player) j) player))
other_out zero player p e w = inl (joined_out p.size player (stones_of p player) w)
other_out (suc fuel) player p e (inl j) = inl (joined_out p.size player (stones_of p player) j)
other_out (suc fuel) Black p e (inr (s, w))
    = inr (s, λ j i. subst (λ n. WinsIn n Black (placed p White j) Black) (suc_inj (sym e ∙ one_empty_less p White j i)) (w j i))
other_out (suc fuel) White p e (inr (s, w))
    = inr (s, λ j i. subst (λ n. WinsIn n White (placed p Black j) White) (suc_inj (sym e ∙ one_empty_less p Black j i)) (w j i))

pub other_means : (player : Colour) (p : Position) → Wins player p (other_of player)
    → Joined p.size player
    (stones_of p player) ⊎ (((k : ℕ) × (is_empty_at p k ≡ true)) × ((j : ℕ) → is_empty_at p j ≡ true → Wins player (placed p (other_of player) j) player))
other_means player p w = other_out (empty_count p) player p refl w
