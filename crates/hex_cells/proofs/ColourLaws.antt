-- When two players are one, and the other of the other.
use Rattle.std.proofs.Common.{◌≡◌, not, true, refl}
use Rattle.std.proofs.lemmas.Bool.{false≢true}
use Rattle.hex_cells.specs.Colours.{is_same, other_of}
use Rattle.hex_cells.specs.contracts.colours.Colour.{the_type}
use Rattle.hex_cells.specs.declared.colours.Colour.{Colour}
use Rattle.hex_cells.specs.declared.colours.Colour.TheVariants.{Black, White}
use denote.Enum.Bare.{sameb}

pub same_colour : (a b : Colour) → is_same a b ≡ true → a ≡ b
same_colour Black Black e = refl
same_colour Black White e = absurd (false≢true e)
same_colour White Black e = absurd (false≢true e)
same_colour White White e = refl

pub other_back : (a : Colour) → other_of (other_of a) ≡ a
other_back Black = refl
other_back White = refl

pub is_same-itself : (a : Colour) → is_same a a ≡ true
is_same-itself Black = refl
is_same-itself White = refl

pub is_same-other : (a b : Colour) → is_same (other_of a) b ≡ not (is_same a b)
is_same-other Black Black = refl
is_same-other Black White = refl
is_same-other White Black = refl
is_same-other White White = refl

-- what the code's `==` answers
pub same_player : (a b : Colour) → sameb the_type a b ≡ is_same a b
same_player Black Black = refl
same_player Black White = refl
same_player White Black = refl
same_player White White = refl
