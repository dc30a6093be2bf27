-- A position on which nobody is joined, or the other player alone.
use Rattle.std.proofs.Common.{◌≡◌, true, false, Bool, Some, None, if◌then◌else◌, refl}
use Rattle.std.proofs.lemmas.Bool.{false≢true, true≢false}
use Rattle.hex_cells.specs.Colours.{other_of}
use Rattle.hex_cells.specs.declared.colours.Colour.{Colour}
use Rattle.hex_cells.specs.declared.colours.Colour.TheVariants.{Black, White}
use Rattle.hex_board.specs.Joined.{is_joined, winner_of}
use Rattle.hex_board.specs.Positions.{Position, stones_of}
use Rattle.hex_solve.specs.Deciding.{first, lines_needed, positions_needed}
use Rattle.hex_solve.proofs.NextPositions.{first_joined, lines_joined}

nobody_by : (b w : Bool) → b ≡ false → w ≡ false
    → (if b then Some Black else (if w then Some White else None)) ≡ None
nobody_by true w h i = absurd (true≢false h)
nobody_by false true h i = absurd (true≢false i)
nobody_by false false h i = refl

pub nobody : (p : Position) (mover : Colour) → is_joined p.size mover (stones_of p mover) ≡ false
    → is_joined p.size (other_of mover) (stones_of p (other_of mover)) ≡ false → winner_of p ≡ None
nobody p Black h i = nobody_by (is_joined p.size Black p.black) (is_joined p.size White p.white) h i
nobody p White h i = nobody_by (is_joined p.size Black p.black) (is_joined p.size White p.white) i h

first_by : (b w : Bool) → b ≡ true
    → (if b then Some Black else (if w then Some White else None)) ≡ Some Black
first_by true w h = refl
first_by false w h = absurd (false≢true h)

second_by : (b w : Bool) → b ≡ false → w ≡ true
    → (if b then Some Black else (if w then Some White else None)) ≡ Some White
second_by true w h i = absurd (true≢false h)
second_by false true h i = refl
second_by false false h i = absurd (false≢true i)

pub other_joined : (p : Position) (mover : Colour)
    → is_joined p.size mover (stones_of p mover) ≡ false
    → is_joined p.size (other_of mover) (stones_of p (other_of mover)) ≡ true
    → winner_of p ≡ Some (other_of mover)
other_joined p Black h i
    = second_by (is_joined p.size Black p.black) (is_joined p.size White p.white) h i
other_joined p White h i
    = first_by (is_joined p.size Black p.black) (is_joined p.size White p.white) i

pub joined_told : (p : Position) (mover : Colour)
    → is_joined p.size mover (stones_of p mover) ≡ false
    → is_joined p.size (other_of mover) (stones_of p (other_of mover)) ≡ true
    → (first p mover ≡ Some (other_of mover)) × (positions_needed p mover ≡ 1)
    × (lines_needed (other_of mover) p mover ≡ 2)
joined_told p mover h i =
    let w = other_joined p mover h i in
    let f = first_joined p mover (other_of mover) w in
    (f.0, f.1, lines_joined p mover (other_of mover) w)
