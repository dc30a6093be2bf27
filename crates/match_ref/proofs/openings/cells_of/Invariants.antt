-- The cells of the names so far.
use Rattle.std.proofs.Common.{map, take}
use Rattle.match_ref.specs.Openings.{AreVertices}
use Rattle.match_ref.proofs.openings.cells_of.Given as goal

abbrev pub invariant-loop-name : goal.invariant-loop-name
invariant-loop-name l
    = AreVertices l.size (map (λ s. s.now) (take l.name-index l.names)) l.cells.items
