-- Scopes: sets of cells on which the player is taken to have stones too.
use Rattle.std.specs.Prelude.{ℕ, ◌==◌, Bool, List, [], ◌∷◌, bit_or}
use Rattle.hex_cells.specs.declared.colours.Colour.{Colour}
use Rattle.hex_cells.specs.declared.colours.Colour.TheVariants.{Black, White}
use Rattle.hex_board.specs.Elements.{PlayerBoard}
use Rattle.hex_board.specs.Positions.{Position}
use Rattle.win_cert.specs.declared.certs.Cert.{Cert}
use Rattle.win_cert.specs.declared.lines.Line.{Line}
use Rattle.win_cert.specs.declared.lines.Line.TheVariants.{Put}

-- the scope after these lines, where it was s before them: the cells of the last `put`
abbrev pub scope_after : ℕ → List Line → ℕ
scope_after s [] = s
scope_after s (Put cells ∷ lines) = scope_after cells lines
scope_after s (line ∷ lines) = scope_after s lines

-- whether each cell of s is one of t
abbrev pub is_part : ℕ → ℕ → Bool
is_part s t = bit_or s t == t

-- the board with the player's stones on the cells of s too
abbrev pub with_stones : Position → Colour → ℕ → Position
with_stones p Black s = record { size = p.size; black = bit_or p.black s; white = p.white }
with_stones p White s = record { size = p.size; black = p.black; white = bit_or p.white s }

-- the player's elements on the board of the scope s
abbrev pub elements_in : PlayerBoard → ℕ → PlayerBoard
elements_in e s = record { board = with_stones e.board e.player s; player = e.player }

-- the certificate's board and player
abbrev pub player_board : Cert → PlayerBoard
player_board cert = record { board = cert.board; player = cert.player }
