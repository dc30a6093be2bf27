-- The filled board of a playout, and its result.
use Rattle.std.proofs.Common.{◌≡◌, ℕ, true, false, Bool, cond, ◌↔◌, ◌*◌, ◌<◌, ◌&&◌, not, nat_lt}
use Rattle.std.proofs.Common.{refl, sym, ◌∙◌, ap, subst}
use Rattle.hex_cells.specs.Sets.{has}
use Rattle.std.proofs.lemmas.Bool.{lt-ltb}
use Rattle.hex_cells.specs.Colours.{other_of}
use Rattle.hex_cells.proofs.Bits.{same_set}
use Rattle.hex_cells.specs.declared.colours.Colour.{Colour}
use Rattle.hex_cells.specs.declared.colours.Colour.TheVariants.{Black, White}
use Rattle.hex_board.specs.Joined.{Joined, is_joined}
use Rattle.hex_board.proofs.Search.{joined_test}
use Rattle.hex_board.specs.Positions.{Apart, Within, Position, is_empty_at, stones_of}
use Rattle.play_out.specs.Fills.{ListsEmpties, order_of, filled_by, filled, playout_of, winner_by}
use Rattle.play_out.proofs.Turns.{size_after, full_after, kept_after}
use Rattle.play_out.proofs.Stones.{within_after, apart_after, stones_within}

-- the filled board of a playout has the size of its board
pub filled_size : (p : Position) (player : Colour) (seed k : ℕ)
    → (filled p player seed k).size ≡ p.size
unfolding filled
filled_size p player seed k = size_after p player (order_of p seed k)

-- and each of its stones
pub filled_keeps : (p : Position) (player : Colour) (seed k : ℕ) (owner : Colour) (c : ℕ)
    → has (stones_of p owner) c ≡ true
    → has (stones_of (filled p player seed k) owner) c ≡ true
unfolding filled
filled_keeps p player seed k owner c h = kept_after p player (order_of p seed k) owner c h

pub filled_full : (p : Position) (player : Colour) (seed k : ℕ) (board : Position)
    → ListsEmpties p (order_of p seed k) → board ≡ filled p player seed k → (c : ℕ)
    → is_empty_at board c ≡ false
unfolding filled
filled_full p player seed k board f e c = ap (λ v. is_empty_at v c) e
    ∙ full_after p player (order_of p seed k) f c

abbrev position : ℕ → ℕ → ℕ → Position
position size black white = record { size = size; black = black; white = white }

pub board_is : (p : Position) (player : Colour) (seed k size black white : ℕ) → size ≡ p.size
    → black ≡ stones_of (filled p player seed k) Black
    → white ≡ stones_of (filled p player seed k) White
    → record { size = size; black = black; white = white } ≡ filled p player seed k
board_is p player seed k size black white s b w =
    let full = filled p player seed k in
    ap (λ v. position v black white) (s ∙ sym (filled_size p player seed k))
    ∙ (ap (λ v. position full.size v white) b ∙ ap (λ v. position full.size full.black v) w)

-- one player's stones if the other's are b
other-of-full : (n c : ℕ) (b w : Bool) → ((nat_lt c n && not b) && not w) ≡ false
    → (w ≡ true → c < n) → (b ≡ true → w ≡ true → ⊥) → (nat_lt c n && not b) ≡ w
other-of-full n c true true full within apart = absurd (apart refl refl)
other-of-full n c true false full within apart = and_no (nat_lt c n)
  where
    and_no : (x : Bool) → (x && false) ≡ false
    and_no true = refl
    and_no false = refl
other-of-full n c false true full within apart = ap (λ x. x && true) (lt-ltb c n (within refl))
other-of-full n c false false full within apart = and_yes (nat_lt c n) full
  where
    and_yes : (x : Bool) → ((x && true) && true) ≡ false → (x && true) ≡ false
    and_yes true e = e
    and_yes false e = refl

turned : (x b w : Bool) → ((x && not b) && not w) ≡ ((x && not w) && not b)
turned true true true = refl
turned true true false = refl
turned true false true = refl
turned true false false = refl
turned false b w = refl

-- on the filled board the other player has each cell that the player to move has not
pub others_are : (p : Position) (player : Colour) (seed k own others : ℕ)
    → ListsEmpties p (order_of p seed k)
    → Within p.size (stones_of p (other_of player))
    → Apart (stones_of p player) (stones_of p (other_of player))
    → own ≡ stones_of (filled p player seed k) player
    → ((c : ℕ) → has others c ≡ (nat_lt c (p.size * p.size) && not (has own c)))
    → others ≡ stones_of (filled p player seed k) (other_of player)
unfolding filled
others_are p player seed k own others f w a o h =
    let cells = order_of p seed k in
    let full = filled_by p player cells in
    let e : full.size ≡ p.size = size_after p player cells in
    let within : Within full.size (stones_of full (other_of player))
    = within_after p player (other_of player) cells f w in
    let apart : Apart (stones_of full player) (stones_of full (other_of player))
    = apart_after p player player cells f a in
    same_set others (stones_of full (other_of player)) (λ c.
    h c ∙ (ap (λ v. nat_lt c (p.size * p.size) && not (has v c)) o
    ∙ other-of-full (p.size * p.size) c (has (stones_of full player) c)
    (has (stones_of full (other_of player)) c)
    (ap (λ n. (nat_lt c (n * n) && not (has (stones_of full player) c)) && not (has (stones_of full (other_of player)) c)) (sym e)
    ∙ none player full c (full_after p player cells f c))
    (λ t. subst (λ n. c < n * n) e (within c t)) (apart c)))
  where
    none : (player : Colour) (full : Position) (c : ℕ) → is_empty_at full c ≡ false
        → ((nat_lt c (full.size * full.size) && not (has (stones_of full player) c)) && not (has (stones_of full (other_of player)) c)) ≡ false
    none Black full c e = e
    none White full c e = turned (nat_lt c (full.size * full.size)) (has full.white c)
        (has full.black c) ∙ e

-- the stones of the player to move lie on the board
pub own_within : (p : Position) (player : Colour) (seed k own size before : ℕ)
    → ListsEmpties p (order_of p seed k) → size ≡ p.size
    → before ≡ stones_of p player → Within p.size before
    → own ≡ stones_of (filled p player seed k) player → Within size own
unfolding filled
own_within p player seed k own size before f e b w o =
    subst (λ n. Within n own) (sym e)
    (stones_within p player player (order_of p seed k) own f (subst (λ s. Within p.size s) b w) o)

-- the result, told by the size of the board and by Black's stones on the filled one
pub result_is : (p : Position) (player : Colour) (seed k size black : ℕ) → size ≡ p.size
    → black ≡ (filled p player seed k).black
    → winner_by size black ≡ playout_of p player seed k
unfolding playout_of
result_is p player seed k size black s b =
    ap (λ v. winner_by v black) (s ∙ sym (filled_size p player seed k))
    ∙ ap (λ v. winner_by (filled p player seed k).size v) b

-- the result is Black if a path of Black's stones joins his edges
pub black_joins : (p : Position) (player : Colour) (seed k : ℕ) (result : Colour)
    → result ≡ playout_of p player seed k
    → (result ≡ Black) ↔ Joined (filled p player seed k).size Black (filled p player seed k).black
unfolding playout_of
black_joins p player seed k result e =
    let full = filled p player seed k in
    let test = joined_test full.size Black full.black in (
      (λ b. test.0 (is_black (is_joined full.size Black full.black) (sym e ∙ b))),
      (λ j. e ∙ ap (λ v. cond v Black White) (test.1 j)),
    )
  where
    is_black : (b : Bool) → cond b Black White ≡ Black → b ≡ true
    is_black true h = refl
    is_black false h = cc

-- the filled board, as the code makes it: the stones of the player to move, and all other cells
pub record AreFilled (p : Position) (player : Colour) (seed k size own others : ℕ) : Type 0 where
  pub size_is : size ≡ p.size
  pub own_is : own ≡ stones_of (filled p player seed k) player
  pub others_is : others ≡ stones_of (filled p player seed k) (other_of player)

pub are_filled : (p : Position) (player other : Colour)
    (seed k size own others before others_before all : ℕ) → ListsEmpties p (order_of p seed k)
    → size ≡ p.size
    → before ≡ stones_of p player → Apart before (stones_of p (other_of player))
    → other ≡ other_of player → others_before ≡ stones_of p other → Within p.size others_before
    → own ≡ stones_of (filled p player seed k) player
    → ((c : ℕ) → has all c ≡ nat_lt c (size * size))
    → ((c : ℕ) → has others c ≡ (has all c && not (has own c)))
    → AreFilled p player seed k size own others
are_filled p player other seed k size own others before others_before all f e b a o t w is on h = record {
  size_is = e;
  own_is = is;
  others_is = others_are p player seed k own others f
      (subst (λ s. Within p.size s) (t ∙ ap (stones_of p) o) w)
      (subst (λ s. Apart s (stones_of p (other_of player))) b a) is
      (λ c. h c ∙ (ap (λ v. v && not (has own c)) (on c) ∙ ap (λ n. nat_lt c (n * n) && not (has own c)) e));
}

pub black_filled : (p : Position) (player : Colour) (seed k size own others : ℕ) → player ≡ Black
    → AreFilled p player seed k size own others
    → record { size = size; black = own; white = others } ≡ filled p player seed k
black_filled p player seed k size own others e a
    = board_is p player seed k size own others a.size_is
    (a.own_is ∙ ap (stones_of (filled p player seed k)) e)
    (a.others_is ∙ ap (λ v. stones_of (filled p player seed k) (other_of v)) e)

pub white_filled : (p : Position) (player : Colour) (seed k size own others : ℕ) → player ≡ White
    → AreFilled p player seed k size own others
    → record { size = size; black = others; white = own } ≡ filled p player seed k
white_filled p player seed k size own others e a
    = board_is p player seed k size others own a.size_is
    (a.others_is ∙ ap (λ v. stones_of (filled p player seed k) (other_of v)) e)
    (a.own_is ∙ ap (stones_of (filled p player seed k)) e)
