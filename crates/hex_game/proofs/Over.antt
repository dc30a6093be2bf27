-- A board on which nobody has won.
use Rattle.std.proofs.Common.{◌≡◌, Bool, true, false, cond, Some, None, refl}
use Rattle.std.specs.Prelude.{◌||◌}
use Rattle.hex_cells.specs.declared.colours.Colour.TheVariants.{Black, White}
use Rattle.hex_board.specs.Positions.{Position}
use Rattle.hex_board.specs.Joined.{is_joined, winner_of}
use Rattle.hex_game.specs.Games.{is_over}

none_joined : (a b : Bool) → cond a (Some Black) (cond b (Some White) None) ≡ None
    → (a || b) ≡ false
none_joined true b e = absurd (cc)
none_joined false true e = absurd (cc)
none_joined false false e = refl

-- a game without a winner isn't over
pub not_over : (p : Position) → winner_of p ≡ None → is_over p ≡ false
not_over p e = none_joined (is_joined p.size Black p.black) (is_joined p.size White p.white) e
