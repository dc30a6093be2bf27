-- Stones are counted, so that a game has room for each step that may come.
use Rattle.std.proofs.Common.{◌≡◌, ℕ, ◌+◌, ◌<◌, ◌≤◌, Bool, true, false, cond, zero, suc, refl, ap}
use Rattle.std.proofs.Common.{◌∙◌, arith, inl, inr}
use Rattle.std.proofs.lemmas.Bool.{cases_eq}
use Rattle.hex_cells.specs.Sets.{has, members, with_cell}
use Rattle.hex_cells.proofs.Tables.{board_cell}
use Rattle.hex_cells.proofs.WithCell.{members_with_cell}
use Rattle.hex_board.proofs.Placed.{empty_bare, empty_on}
use Rattle.hex_board.specs.Positions.{Position, Apart, is_empty_at, placed}
use Rattle.hex_cells.specs.declared.colours.Colour.{Colour}
use Rattle.hex_cells.specs.declared.colours.Colour.TheVariants.{Black, White}
use Rattle.hex_game.specs.Kept.{stones_on}

two_le : (x y : Bool) (m n j : ℕ) → (x ≡ true → y ≡ true → ⊥) → m + n ≤ j
    → (cond {A = ℕ} x 1 0 + m) + (cond {A = ℕ} y 1 0 + n) ≤ suc j
two_le true true m n j a h = absurd (a refl refl)
two_le true false m n j a h = omega arith
two_le false true m n j a h = omega arith
two_le false false m n j a h = omega arith

two_lt : (x y : Bool) (m n j : ℕ) → (x ≡ true → y ≡ true → ⊥) → m + n < j
    → (cond {A = ℕ} x 1 0 + m) + (cond {A = ℕ} y 1 0 + n) < suc j
two_lt true true m n j a h = absurd (a refl refl)
two_lt true false m n j a h = omega arith
two_lt false true m n j a h = omega arith
two_lt false false m n j a h = omega arith

none_lt : (x y : Bool) (m n j : ℕ) → x ≡ false → y ≡ false → m + n ≤ j
    → (cond {A = ℕ} x 1 0 + m) + (cond {A = ℕ} y 1 0 + n) < suc j
none_lt x y m n j e f h = rw (e, f) (omega arith)

pub members_two : (b w j : ℕ) → Apart b w → members b j + members w j ≤ j
unfolding members
members_two b w zero a = omega arith
members_two b w (suc j) a = two_le (has b j) (has w j) (members b j) (members w j) j (a j)
    (members_two b w j a)

-- if a cell is in neither set, the two have fewer members than there are cells
members_free : (b w c j : ℕ) → Apart b w → has b c ≡ false → has w c ≡ false → c < j
    → members b j + members w j < j
unfolding members
members_free b w c zero a f g h = absurd (omega arith)
members_free b w c (suc j) a f g h = elim (cases_eq j c) [
  | inl e ↦ none_lt (has b j) (has w j) (members b j) (members w j) j (ap (has b) e ∙ f)
      (ap (has w) e ∙ g) (members_two b w j a)
  | inr n ↦ two_lt (has b j) (has w j) (members b j) (members w j) j (a j)
      (members_free b w c j a f g (omega arith))
]

pub room_for_stone : (b w c : ℕ) → Apart b w → has b c ≡ false → has w c ≡ false → c < 121
    → members b 121 + members w 121 < 121
room_for_stone b w c a f g h = members_free b w c 121 a f g h

-- one stone more of either colour
pub one_stone_more : (b w c : ℕ) → c < 121 → has b c ≡ false
    → members (with_cell b c) 121 + members w 121 ≡ members b 121 + members w 121 + 1
one_stone_more b w c h f = rw (members_with_cell b c 121 f h) (omega arith)

pub one_stone_more_white : (b w c : ℕ) → c < 121 → has w c ≡ false
    → members b 121 + members (with_cell w c) 121 ≡ members b 121 + members w 121 + 1
one_stone_more_white b w c h f = rw (members_with_cell w c 121 f h) (omega arith)

-- an empty cell of the board is one of 121 and in neither set
pub empty_cell : (p : Position) (k : ℕ) → p.size ≤ 11 → is_empty_at p k ≡ true
    → (k < 121) × (has p.black k ≡ false) × (has p.white k ≡ false)
empty_cell p k h e
    = (board_cell p.size k h (empty_on p k e), empty_bare p Black k e, empty_bare p White k e)

pub one_placed : (p : Position) (colour : Colour) (k : ℕ) → k < 121 → has p.black k ≡ false
    → has p.white k ≡ false → stones_on (placed p colour k) ≡ stones_on p + 1
one_placed p Black k h f g = one_stone_more p.black p.white k h f
one_placed p White k h f g = one_stone_more_white p.black p.white k h g
