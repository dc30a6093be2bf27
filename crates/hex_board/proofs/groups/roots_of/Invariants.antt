use Rattle.hex_board.proofs.Roots.{Found}
use Rattle.hex_board.proofs.groups.roots_of.Given as goal

abbrev pub invariant-groups : goal.invariant-groups
invariant-groups l = Found l.size l.stones l.roots l.rest

abbrev pub decreases-groups : goal.decreases-groups
decreases-groups l = l.rest
