-- The two players.
use Rattle.std.specs.Prelude.{ℕ, Bool, true, false, List, codes}
use Rattle.hex_cells.specs.declared.colours.Colour.{Colour}
use Rattle.hex_cells.specs.declared.colours.Colour.TheVariants.{Black, White}

-- the other player
abbrev pub other_of : Colour → Colour
other_of Black = White
other_of White = Black

-- the two players are one
abbrev pub is_same : Colour → Colour → Bool
is_same Black Black = true
is_same Black White = false
is_same White Black = false
is_same White White = true

-- a player's name in text
abbrev pub colour_word : Colour → List ℕ
colour_word Black = codes "black"
colour_word White = codes "white"
