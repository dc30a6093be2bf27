-- A board with one stone more: its size, its stones, and its empty cells.
use Rattle.std.proofs.Common.{◌≡◌, ℕ, ◌*◌, ◌<◌, ◌==◌, ◌&&◌, ◌||◌, not, nat_lt, true, false, Bool}
use Rattle.std.proofs.Common.{refl, ap, sym, ◌∙◌, subst, arith, inl, inr}
use Rattle.std.proofs.lemmas.Bool.{and_parts, both_ways, eq-eqb, ltb-true, not-true}
use Rattle.hex_cells.specs.Colours.{other_of}
use Rattle.hex_cells.specs.Sets.{has, with_cell}
use Rattle.hex_cells.specs.declared.colours.Colour.{Colour}
use Rattle.hex_cells.specs.declared.colours.Colour.TheVariants.{Black, White}
use Rattle.hex_cells.proofs.WithCell.{has_with_cell, with_cell-cases, with_cell-keeps}
use Rattle.hex_board.specs.Positions.{Apart, IsPosition, Position, Within, is_empty_at, placed}
use Rattle.hex_board.specs.Positions.{stones_of}

-- the player's stones lie on the board
pub stones_on : (p : Position) (player : Colour) → IsPosition p.size p.black p.white
    → Within p.size (stones_of p player)
stones_on p Black h = h.black_on
stones_on p White h = h.white_on

-- ---- an empty cell

empty_parts : (p : Position) (k : ℕ) → is_empty_at p k ≡ true
    → (k < p.size * p.size) × (has p.black k ≡ false) × (has p.white k ≡ false)
empty_parts p k h =
    let t = and_parts (nat_lt k (p.size * p.size) && not (has p.black k)) (not (has p.white k)) h in
    let u = and_parts (nat_lt k (p.size * p.size)) (not (has p.black k)) t.0 in
    (ltb-true k (p.size * p.size) u.0, not-true (has p.black k) u.1, not-true (has p.white k) t.1)

-- it lies on the board
pub empty_on : (p : Position) (k : ℕ) → is_empty_at p k ≡ true → k < p.size * p.size
empty_on p k h = (empty_parts p k h).0

-- and has no stone
pub empty_bare : (p : Position) (player : Colour) (k : ℕ) → is_empty_at p k ≡ true
    → has (stones_of p player) k ≡ false
empty_bare p Black k h = (empty_parts p k h).1
empty_bare p White k h = (empty_parts p k h).2

full_black : (a b c : Bool) → b ≡ true → (a && not b && not c) ≡ false
full_black a b c h = grind arith

full_white : (a b c : Bool) → c ≡ true → (a && not b && not c) ≡ false
full_white a b c h = grind arith

pub stone_full : (p : Position) (player : Colour) (k : ℕ) → has (stones_of p player) k ≡ true
    → is_empty_at p k ≡ false
stone_full p Black k h = full_black (nat_lt k (p.size * p.size)) (has p.black k) (has p.white k) h
stone_full p White k h = full_white (nat_lt k (p.size * p.size)) (has p.black k) (has p.white k) h

-- ---- one stone more

pub placed_size : (p : Position) (player : Colour) (c : ℕ) → (placed p player c).size ≡ p.size
placed_size p Black c = refl
placed_size p White c = refl

-- the player has one stone more
pub placed_own : (p : Position) (player : Colour) (c : ℕ)
    → stones_of (placed p player c) player ≡ with_cell (stones_of p player) c
placed_own p Black c = refl
placed_own p White c = refl

-- and the other his
pub placed_other : (p : Position) (player : Colour) (c : ℕ)
    → stones_of (placed p player c) (other_of player) ≡ stones_of p (other_of player)
placed_other p Black c = refl
placed_other p White c = refl

pub placed_not_own : (p : Position) (player : Colour) (c : ℕ)
    → stones_of (placed p (other_of player) c) player ≡ stones_of p player
placed_not_own p Black c = refl
placed_not_own p White c = refl

-- each stone stays
pub placed_keeps : (p : Position) (player : Colour) (c : ℕ) (owner : Colour) (k : ℕ)
    → has (stones_of p owner) k ≡ true
    → has (stones_of (placed p player c) owner) k ≡ true
placed_keeps p Black c Black k h = with_cell-keeps p.black c k h
placed_keeps p Black c White k h = h
placed_keeps p White c Black k h = h
placed_keeps p White c White k h = with_cell-keeps p.white c k h

pub less_black : (a b w e : Bool)
    → ((a && not (b || e)) && not w) ≡ (((a && not b) && not w) && not e)
less_black a b w e = grind arith

pub less_white : (a b w e : Bool)
    → ((a && not b) && not (w || e)) ≡ (((a && not b) && not w) && not e)
less_white a b w e = grind arith

-- the other cells stay as they are
pub placed_leaves : (p : Position) (player : Colour) (c k : ℕ)
    → is_empty_at (placed p player c) k ≡ (is_empty_at p k && not (k == c))
placed_leaves p Black c k = ap (λ b. (nat_lt k (p.size * p.size) && not b) && not (has p.white k))
    (has_with_cell p.black c k)
    ∙ less_black (nat_lt k (p.size * p.size)) (has p.black k) (has p.white k) (k == c)
placed_leaves p White c k = ap (λ b. (nat_lt k (p.size * p.size) && not (has p.black k)) && not b)
    (has_with_cell p.white c k)
    ∙ less_white (nat_lt k (p.size * p.size)) (has p.black k) (has p.white k) (k == c)

-- a cell that is empty then is empty now, and another
pub placed_empty : (p : Position) (player : Colour) (c k : ℕ)
    → is_empty_at (placed p player c) k ≡ true → (is_empty_at p k ≡ true) × (k ≡ c → ⊥)
placed_empty p player c k h =
    let t = and_parts (is_empty_at p k) (not (k == c)) (sym (placed_leaves p player c k) ∙ h) in
    (t.0, λ e. both_ways (k == c) (not-true (k == c) t.1) (eq-eqb k c e))

-- ---- stones on the board, and apart

pub apart_back : (a b : ℕ) → Apart a b → Apart b a
apart_back a b f k h g = f k g h

pub with_within : (n s c : ℕ) → Within n s → c < n * n → Within n (with_cell s c)
with_within n s c f l k h
    = elim (with_cell-cases s c k h) [ inl e ↦ f k e | inr e ↦ subst (λ v. v < n * n) (sym e) l ]

with_apart : (a b c : ℕ) → Apart a b → has b c ≡ false → Apart (with_cell a c) b
with_apart a b c f n k h g
    = elim (with_cell-cases a c k h) [ inl e ↦ f k e g | inr e ↦ both_ways (has b c) n (ap (λ v. has b v) (sym e) ∙ g) ]

pub placed_within : (p : Position) (player owner : Colour) (c : ℕ)
    → Within p.size (stones_of p owner) → is_empty_at p c ≡ true
    → Within (placed p player c).size (stones_of (placed p player c) owner)
placed_within p Black Black c f e = with_within p.size p.black c f (empty_on p c e)
placed_within p Black White c f e = f
placed_within p White Black c f e = f
placed_within p White White c f e = with_within p.size p.white c f (empty_on p c e)

pub placed_apart : (p : Position) (player owner : Colour) (c : ℕ)
    → Apart (stones_of p owner) (stones_of p (other_of owner)) → is_empty_at p c ≡ true
    → Apart (stones_of (placed p player c) owner) (stones_of (placed p player c) (other_of owner))
placed_apart p Black Black c f e = with_apart p.black p.white c f (empty_bare p White c e)
placed_apart p White White c f e = with_apart p.white p.black c f (empty_bare p Black c e)
placed_apart p Black White c f e
    = apart_back (with_cell p.black c) p.white
    (with_apart p.black p.white c (apart_back p.white p.black f) (empty_bare p White c e))
placed_apart p White Black c f e
    = apart_back (with_cell p.white c) p.black
    (with_apart p.white p.black c (apart_back p.black p.white f) (empty_bare p Black c e))
