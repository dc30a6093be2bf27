-- Boards of scopes: their stones and their empty cells.
use Rattle.std.proofs.Common.{◌≡◌, ℕ, ◌*◌, ◌<◌, ◌≤◌, ◌&&◌, ◌||◌, not, nat_lt, true, false, Bool}
use Rattle.std.proofs.Common.{refl, ap, sym, ◌∙◌, subst, inl, inr}
use Rattle.std.proofs.lemmas.Bool.{and_parts, both_ways, not-true, or_cases, or_left, or_right}
use Rattle.hex_cells.specs.Sets.{has, with_cell}
use Rattle.hex_cells.specs.declared.colours.Colour.{Colour}
use Rattle.hex_cells.specs.declared.colours.Colour.TheVariants.{Black, White}
use Rattle.hex_cells.proofs.Bits.{has_none, has_or}
use Rattle.hex_cells.proofs.Tables.{board_cell}
use Rattle.hex_cells.proofs.WithCell.{with_cell-cases, with_cell-here, with_cell-keeps}
use Rattle.hex_board.specs.Elements.{PlayerBoard}
use Rattle.hex_board.specs.Positions.{AllEmpty, Position, is_empty_at, stones_of}
use Rattle.hex_board.proofs.Placed.{empty_on, less_black, less_white}
use Rattle.conn_store.specs.Laws.{IsSubset}
use Rattle.win_cert.specs.Scopes.{elements_in, with_stones}

-- a player's board of at most 121 cells
abbrev pub IsSmallBoard : PlayerBoard → Type 0
IsSmallBoard e = e.board.size ≤ 11

pub empty_small : (e : PlayerBoard) (c : ℕ) → IsSmallBoard e → AllEmpty e.board c → (k : ℕ)
    → has c k ≡ true → k < 121
empty_small e c m f k h = board_cell e.board.size k m (empty_on e.board k (f k h))

-- ---- the board of a scope

pub scope_size : (p : Position) (c : Colour) (s : ℕ) → (with_stones p c s).size ≡ p.size
scope_size p Black s = refl
scope_size p White s = refl

-- the player has the stones of the scope too
pub scope_own : (p : Position) (c : Colour) (s k : ℕ)
    → has (stones_of (with_stones p c s) c) k ≡ (has (stones_of p c) k || has s k)
scope_own p Black s k = has_or p.black s k
scope_own p White s k = has_or p.white s k

-- and the other cells are as they were
pub scope_leaves : (p : Position) (c : Colour) (s k : ℕ)
    → is_empty_at (with_stones p c s) k ≡ (is_empty_at p k && not (has s k))
scope_leaves p Black s k = ap (λ b. (nat_lt k (p.size * p.size) && not b) && not (has p.white k))
    (has_or p.black s k)
    ∙ less_black (nat_lt k (p.size * p.size)) (has p.black k) (has p.white k) (has s k)
scope_leaves p White s k = ap (λ b. (nat_lt k (p.size * p.size) && not (has p.black k)) && not b)
    (has_or p.white s k)
    ∙ less_white (nat_lt k (p.size * p.size)) (has p.black k) (has p.white k) (has s k)

-- a cell that is empty in the scope is empty without it
pub scope_empty : (p : Position) (c : Colour) (s k : ℕ) → is_empty_at (with_stones p c s) k ≡ true
    → is_empty_at p k ≡ true
scope_empty p c s k h
    = (and_parts (is_empty_at p k) (not (has s k)) (sym (scope_leaves p c s k) ∙ h)).0

pub scope_small : (base : PlayerBoard) (s : ℕ) → IsSmallBoard base
    → IsSmallBoard (elements_in base s)
scope_small base s m = subst (λ n. n ≤ 11) (sym (scope_size base.board base.player s)) m

-- ---- a scope with one cell more

-- its stones are those of the scope and one on the cell
pub scope_more : (p : Position) (c : Colour) (s k : ℕ)
    → IsSubset (stones_of (with_stones p c (with_cell s k)) c)
    (with_cell (stones_of (with_stones p c s) c) k)
scope_more p c s k j h
    = elim (or_cases (has (stones_of p c) j) (has (with_cell s k) j) (sym (scope_own p c (with_cell s k) j) ∙ h)) [
      | inl o ↦ with_cell-keeps (stones_of (with_stones p c s) c) k j
          (scope_own p c s j ∙ or_left (has (stones_of p c) j) (has s j) o)
      | inr o ↦ elim (with_cell-cases s k j o) [
        | inl i ↦ with_cell-keeps (stones_of (with_stones p c s) c) k j
            (scope_own p c s j ∙ or_right (has (stones_of p c) j) (has s j) i)
        | inr e ↦ subst (λ v. has (with_cell (stones_of (with_stones p c s) c) k) v ≡ true) (sym e)
            (with_cell-here (stones_of (with_stones p c s) c) k)
      ]
    ]

kept_empty : (a b d : Bool) → (a && not d) ≡ true → (b ≡ true → d ≡ true) → (a && not b) ≡ true
kept_empty true true true h f = h
kept_empty true true false h f = absurd (both_ways false refl (f refl))
kept_empty true false d h f = refl
kept_empty false b d h f = h

-- a cell that is empty then is empty without it, and is another
pub scope_fewer : (p : Position) (c : Colour) (s k j : ℕ)
    → is_empty_at (with_stones p c (with_cell s k)) j ≡ true
    → (is_empty_at (with_stones p c s) j ≡ true) × (j ≡ k → ⊥)
scope_fewer p c s k j h =
    let t : (is_empty_at p j && not (has (with_cell s k) j)) ≡ true
    = sym (scope_leaves p c (with_cell s k) j) ∙ h in (
      scope_leaves p c s j ∙ kept_empty (is_empty_at p j) (has s j) (has (with_cell s k) j) t
          (with_cell-keeps s k j),
      λ e. both_ways (has (with_cell s k) j)
          (not-true (has (with_cell s k) j) (and_parts (is_empty_at p j) (not (has (with_cell s k) j)) t).1)
          (subst (λ v. has (with_cell s k) v ≡ true) (sym e) (with_cell-here s k)),
    )

-- ---- the empty scope

none_stones : (p : Position) (c : Colour)
    → IsSubset (stones_of (with_stones p c 0) c) (stones_of p c)
none_stones p c k h
    = elim (or_cases (has (stones_of p c) k) (has 0 k) (sym (scope_own p c 0 k) ∙ h)) [
      | inl o ↦ o
      | inr o ↦ absurd (both_ways (has 0 k) (has_none k) o)
    ]

-- its board has the board's stones
pub no_scope_stones : (base : PlayerBoard)
    → IsSubset (stones_of (elements_in base 0).board base.player) (stones_of base.board base.player)
no_scope_stones base = none_stones base.board base.player
