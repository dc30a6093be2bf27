-- Stones on cells in turn: what stays empty, what stays, and the stones of one player.
use Rattle.std.proofs.Common.{◌≡◌, ℕ, ◌+◌, ◌<◌, ◌≤◌, ◌==◌, ◌&&◌, not, true, false, Bool, cond, List}
use Rattle.std.proofs.Common.{[], ◌∷◌, length, drop, get_or, refl, sym, ◌∙◌, ap, arith, inl, inr}
use Rattle.std.proofs.Common.{suc, add-one}
use Rattle.std.proofs.Math.Seq.{drop-cons}
use Rattle.std.proofs.lemmas.List.{drop_all, drop-drop}
use Rattle.std.specs.List.{count_by}
use Rattle.std.proofs.lemmas.Bool.{cases_eq, eq-eqb, ne_eqb}
use Rattle.hex_cells.specs.Sets.{has, with_cell}
use Rattle.hex_cells.specs.Colours.{other_of, is_same}
use Rattle.hex_cells.specs.declared.colours.Colour.{Colour}
use Rattle.hex_cells.specs.declared.colours.Colour.TheVariants.{Black, White}
use Rattle.hex_board.specs.Positions.{Position, is_empty_at, placed, stones_of}
use Rattle.play_out.specs.Fills.{ListsEmpties, filled_by}
use Rattle.play_out.proofs.Counting.{counted_here, counted_later}
use Rattle.hex_board.proofs.Placed.{placed_leaves, placed_keeps, placed_size}

one_of : (b : Bool) (n : ℕ) → 1 + n ≡ cond b 1 0 → b ≡ true
one_of true n e = refl
one_of false n e = absurd (omega arith)

none_left : (b : Bool) (n : ℕ) → 1 + n ≡ cond b 1 0 → n ≡ 0
none_left true n e = omega arith
none_left false n e = absurd (omega arith)

pub first_empty : (p : Position) (c : ℕ) (left : List ℕ) → ListsEmpties p (c ∷ left)
    → is_empty_at p c ≡ true
first_empty p c left f = one_of (is_empty_at p c) (count_by (λ x. x == c) left)
    (sym (counted_here c c left refl) ∙ f c)

pub rest_empty : (p : Position) (player : Colour) (c : ℕ) (left : List ℕ)
    → ListsEmpties p (c ∷ left) → ListsEmpties (placed p player c) left
rest_empty p player c left f k = elim (cases_eq c k) [
  | inl e ↦ none_left (is_empty_at p k) (count_by (λ x. x == k) left)
      (sym (counted_here k c left e) ∙ f k)
      ∙ sym (ap (λ b. cond b 1 0) (placed_leaves p player c k ∙ (ap (λ b. is_empty_at p k && not b) (eq-eqb k c (sym e)) ∙ and_no (is_empty_at p k))))
  | inr n ↦ sym (counted_later k c left n)
      ∙ (f k ∙ sym (ap (λ b. cond b 1 0) (placed_leaves p player c k
      ∙ (ap (λ b. is_empty_at p k && not b) (ne_eqb k c (λ e. n (sym e))) ∙ and_yes (is_empty_at p k)))))
]
  where
    and_no : (b : Bool) → (b && false) ≡ false
    and_no true = refl
    and_no false = refl

    and_yes : (b : Bool) → (b && true) ≡ b
    and_yes true = refl
    and_yes false = refl

-- ---- the board after all of them

none_empty : (b : Bool) → 0 ≡ cond {A = ℕ} b 1 0 → b ≡ false
none_empty true e = absurd (omega arith)
none_empty false e = refl

-- no cell is empty after stones on all that were
pub full_after : (p : Position) (player : Colour) (cells : List ℕ) → ListsEmpties p cells → (k : ℕ)
    → is_empty_at (filled_by p player cells) k ≡ false
unfolding filled_by
full_after p player [] f k = none_empty (is_empty_at p k) (f k)
full_after p player (c ∷ cells) f k = full_after (placed p player c) (other_of player) cells
    (rest_empty p player c cells f) k

-- each stone stays
pub kept_after : (p : Position) (player : Colour) (cells : List ℕ) (owner : Colour) (k : ℕ)
    → has (stones_of p owner) k ≡ true
    → has (stones_of (filled_by p player cells) owner) k ≡ true
unfolding filled_by
kept_after p player [] owner k h = h
kept_after p player (c ∷ cells) owner k h
    = kept_after (placed p player c) (other_of player) cells owner k
    (placed_keeps p player c owner k h)

-- the size stays
pub size_after : (p : Position) (player : Colour) (cells : List ℕ)
    → (filled_by p player cells).size ≡ p.size
unfolding filled_by
size_after p player [] = refl
size_after p player (c ∷ cells) = size_after (placed p player c) (other_of player) cells
    ∙ placed_size p player c

-- ---- the stones of one player

-- the set s with every second of the cells too: the first, the third and so on if the test passes,
-- else the second,
-- the fourth and so on
unfoldable pub with_turns : Bool → ℕ → List ℕ → ℕ
with_turns begins s [] = s
with_turns true s (c ∷ cells) = with_turns false (with_cell s c) cells
with_turns false s (c ∷ cells) = with_turns true s cells

every_second : (s : ℕ) (cells : List ℕ)
    → with_turns false s cells ≡ with_turns true s (drop 1 cells)
unfolding with_turns
every_second s [] = refl
every_second s (c ∷ cells) = refl

-- a player's stones after stones in turn
pub turns : (p : Position) (player owner : Colour) (cells : List ℕ)
    → with_turns (is_same player owner) (stones_of p owner) cells ≡ stones_of
    (filled_by p player cells) owner
unfolding filled_by with_turns
turns p Black Black [] = refl
turns p Black White [] = refl
turns p White Black [] = refl
turns p White White [] = refl
turns p Black Black (c ∷ cells) = turns (placed p Black c) White Black cells
turns p Black White (c ∷ cells) = turns (placed p Black c) White White cells
turns p White Black (c ∷ cells) = turns (placed p White c) Black Black cells
turns p White White (c ∷ cells) = turns (placed p White c) Black White cells

-- from the first place on, or from the second
from_place : (begins : Bool) (s : ℕ) (cells : List ℕ) (i : ℕ) → i ≡ cond begins 0 1
    → with_turns true s (drop i cells) ≡ with_turns begins s cells
from_place true s cells i e = ap (λ v. with_turns true s (drop v cells)) e
from_place false s cells i e = ap (λ v. with_turns true s (drop v cells)) e
    ∙ sym (every_second s cells)

pub turns_begin : (p : Position) (player owner : Colour) (cells : List ℕ) (s i : ℕ)
    → s ≡ stones_of p owner → i ≡ cond (is_same player owner) 0 1
    → with_turns true s (drop i cells) ≡ stones_of (filled_by p player cells) owner
turns_begin p player owner cells s i e f =
    from_place (is_same player owner) s cells i f
    ∙ (ap (λ v. with_turns (is_same player owner) v cells) e ∙ turns p player owner cells)

pub turns_go_on : (s : ℕ) (cells : List ℕ) (i c next : ℕ) → i < length cells → c ≡ get_or cells i c
    → next ≡ with_cell s c
    → with_turns true next (drop (i + 2) cells) ≡ with_turns true s (drop i cells)
unfolding with_turns
turns_go_on s cells i c next l q e =
    let d : drop i cells ≡ c ∷ drop (i + 1) cells =
    drop-cons cells i c l
    ∙ (ap (λ v. v ∷ drop (suc i) cells) (sym q) ∙ ap (λ v. c ∷ drop v cells) (sym (add-one i))) in
    let sum : i + 2 ≡ i + 1 + 1 = omega arith in
    let two : drop (i + 2) cells ≡ drop 1 (drop (i + 1) cells) = ap (λ v. drop v cells) sum
    ∙ sym (drop-drop 1 (i + 1) cells) in
    ap (λ v. with_turns true v (drop (i + 2) cells)) e
    ∙ (ap (λ v. with_turns true (with_cell s c) v) two
    ∙ (sym (every_second (with_cell s c) (drop (i + 1) cells)) ∙ sym (ap (λ v. with_turns true s v) d)))

pub turns_end : (s : ℕ) (cells : List ℕ) (i : ℕ) → length cells ≤ i
    → s ≡ with_turns true s (drop i cells)
unfolding with_turns
turns_end s cells i l = sym (ap (λ v. with_turns true s v) (drop_all i cells l))
