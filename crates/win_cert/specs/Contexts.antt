-- Lines that are read in turn: what the next line is read over, and that there is no reason against
-- any of them. Only private clauses cite this.
use Rattle.std.specs.Prelude.{◌≡◌, ◌++◌, List, [], ◌∷◌, None}
use Rattle.hex_cells.specs.declared.colours.Colour.{Colour}
use Rattle.hex_board.specs.Positions.{Position}
use Rattle.win_cert.specs.Entries.{Context, gives}
use Rattle.win_cert.specs.Reasons.{reason_against}
use Rattle.win_cert.specs.Scopes.{scope_after}
use Rattle.win_cert.specs.declared.statements.Statement.TheVariants.{Derivation}
use Rattle.win_cert.specs.declared.lines.Line.{Line}

-- what the first line is read over
abbrev pub first_context : Position → Colour → Context
first_context board player = record {
  base = record { board = board; player = player };
  scope = 0;
  earlier = [];
}

-- what the next line is read over
abbrev pub context_after : Context → Line → Context
context_after c line = record {
  base = c.base;
  scope = scope_after c.scope (line ∷ []);
  earlier = c.earlier ++ gives c line ∷ [];
}

-- what is read over after these lines
abbrev pub after_lines : Context → List Line → Context
after_lines c [] = c
after_lines c (line ∷ lines) = after_lines (context_after c line) lines

-- there is no reason against any of these lines, read in turn
abbrev pub AreClear : Context → List Line → Type 0
AreClear c [] = Unit {0}
AreClear c (line ∷ lines) =
    (reason_against c (Derivation line) ≡ None) × AreClear (context_after c line) lines
