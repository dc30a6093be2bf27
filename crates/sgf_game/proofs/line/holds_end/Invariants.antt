use Rattle.std.proofs.Common.{◌≡◌, drop, map}
use Rattle.hex_cells.specs.declared.colours.Colour.{Colour}
use Rattle.sgf_game.specs.Lines.{has_end, entry}
use Rattle.sgf_game.proofs.line.holds_end.Given as goal

abbrev pub invariant-loop-value : goal.invariant-loop-value
invariant-loop-value l = (colour : Colour)
    → has_end (map (entry colour) (drop l.value-index l.values)) ≡ has_end
    (map (entry colour) l.values)
