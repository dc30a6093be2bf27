-- The cell of a win is empty, and decides the turn.
use Rattle.std.proofs.Common.{refl}
use Rattle.hex_plan.proofs.PlanLaws.{decided_by_win, good_win, planned_empty}
use Rattle.hex_plan.proofs.turns.Turn.won.Goals as goal

pub invariant_of-result : goal.invariant_of-result
invariant_of-result c =
    decided_by_win _ c.requires.planned.0 c.requires.planned.1 c.won_cell-cell.ensures refl refl

pub returns-clause-empty : goal.returns-clause-empty
returns-clause-empty c =
    planned_empty _ _ c.requires.planned.0 _ _ c.requires.planned.1 c.won_cell-cell.ensures

pub returns-clause-good : goal.returns-clause-good
returns-clause-good c = λ knobs means n h.
    good_win knobs _ means
    c.keeps.ensures.position
    n h c.won_cell-cell.ensures refl refl
