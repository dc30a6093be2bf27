-- Stones in turn on the first of a list of cells.
use Rattle.std.proofs.Common.{◌≡◌, ℕ, zero, suc, ◌+◌, ◌<◌, ◌==◌, ◌&&◌, not, Bool, true, false, cond}
use Rattle.std.proofs.Common.{List, [], ◌∷◌, ◌++◌, length, take, drop, get_or, refl, sym, ap, ◌∙◌}
use Rattle.std.proofs.Common.{inl, inr, arith}
use Rattle.std.specs.List.{count_by}
use Rattle.std.proofs.Math.Seq.{drop-cons}
use Rattle.std.proofs.lemmas.Bool.{cases_eq, ne_eqb}
use Rattle.std.proofs.lemmas.List.Sums.{sum_by-take-drop}
use Rattle.hex_cells.specs.Colours.{other_of}
use Rattle.hex_cells.specs.declared.colours.Colour.{Colour}
use Rattle.hex_cells.specs.declared.colours.Colour.TheVariants.{Black}
use Rattle.hex_board.specs.Positions.{Position, is_empty_at, placed}
use Rattle.hex_board.proofs.Placed.{placed_leaves}
use Rattle.play_out.specs.Fills.{ListsEmpties, filled_by}
use Rattle.play_out.proofs.Counting.{counted_here, counted_later}
use Rattle.turn_modes.specs.Positions.{mover_after}

-- ---- who places

-- who places after n stones, if this player places the first
abbrev pub mover_from : Colour → ℕ → Colour
mover_from player zero = player
mover_from player (suc n) = mover_from (other_of player) n

from_other : (player : Colour) (n : ℕ)
    → mover_from (other_of player) n ≡ other_of (mover_from player n)
from_other player zero = refl
from_other player (suc n) = from_other (other_of player) n

pub from_black : (n : ℕ) → mover_from Black n ≡ mover_after n
from_black zero = refl
from_black (suc n) = from_other Black n ∙ ap other_of (from_black n)

-- one stone more
pub one_stone_more : (p : Position) (player : Colour) (cells : List ℕ) (x : ℕ)
    → filled_by p player (cells ++ x ∷ []) ≡ placed (filled_by p player cells)
    (mover_from player (length cells)) x
unfolding filled_by
one_stone_more p player [] x = refl
one_stone_more p player (c ∷ cells) x = one_stone_more (placed p player c) (other_of player) cells x

-- ---- what stays empty

stays_empty : (p : Position) (player : Colour) (c k : ℕ) → is_empty_at p k ≡ true → (c ≡ k → ⊥)
    → is_empty_at (placed p player c) k ≡ true
stays_empty p player c k h n = placed_leaves p player c k
    ∙ both (is_empty_at p k) (k == c) h (ne_eqb k c (λ e. n (sym e)))
  where
    both : (a b : Bool) → a ≡ true → b ≡ false → (a && not b) ≡ true
    both a b e f = ap (λ v. v && not b) e ∙ ap not f

-- an empty cell that is none of these
left_empty : (p : Position) (player : Colour) (cells : List ℕ) (k : ℕ) → is_empty_at p k ≡ true
    → count_by (λ c. c == k) cells ≡ 0 → is_empty_at (filled_by p player cells) k ≡ true
unfolding filled_by
left_empty p player [] k h z = h
left_empty p player (c ∷ cells) k h z = elim (cases_eq c k) [
  | inl e ↦ let more = counted_here k c cells e in absurd (omega arith)
  | inr n ↦ left_empty (placed p player c) (other_of player) cells k (stays_empty p player c k h n)
      (sym (counted_later k c cells n) ∙ z)
]

-- the cell of a place, of a list that has each empty cell once, is empty while stones are on those
-- before it
pub next_is_empty : (p : Position) (player : Colour) (cells : List ℕ) (m x d : ℕ)
    → ListsEmpties p cells → m < length cells → x ≡ get_or cells m d
    → is_empty_at (filled_by p player (take m cells)) x ≡ true
next_is_empty p player cells m x d f l e =
    let rest : List ℕ = drop (suc m) cells in
    let split = sum_by-take-drop (λ c. cond (c == x) 1 0) cells m in
    let behind : count_by (λ c. c == x) (drop m cells) ≡ 1 + count_by (λ c. c == x) rest
    = ap (λ v. count_by (λ c. c == x) v) (drop-cons cells m d l ∙ ap (λ y. y ∷ rest) (sym e))
    ∙ counted_here x x rest refl in
    let once = f x in
    left_empty p player (take m cells) x
    (is_one (is_empty_at p x) (count_by (λ c. c == x) cells) once (omega arith))
    (is_none (is_empty_at p x) (count_by (λ c. c == x) cells)
    (count_by (λ c. c == x) (take m cells)) once (omega arith))
  where
    is_one : (b : Bool) (n : ℕ) → n ≡ cond b 1 0 → 0 < n → b ≡ true
    is_one true n e l = refl
    is_one false n e l = absurd (omega arith)

    is_none : (b : Bool) (n k : ℕ) → n ≡ cond b 1 0 → k < n → k ≡ 0
    is_none true n k e l = omega arith
    is_none false n k e l = omega arith
