-- What is kept of a parent, so that a bonus is bounded by a product. No clause of a public call
-- cites this.
use Rattle.std.specs.Prelude.{◌*◌, ◌^◌, ◌<◌, ◌≤◌}
use Rattle.uct_table.specs.Scores.{level_of}
use Rattle.uct_table.specs.Choice.{ParentData}
use Rattle.uct_table.specs.declared.scoring.TheConstants.{MOST_COUNT, MOST_WEIGHT}

-- The parent's numbers are in their ranges, and the factor is above the weight times the root of
-- its level's 2^24th parts.
pub record IsParent (p : ParentData) : Type 0 where
  pub visits : p.visits ≤ MOST_COUNT
  pub weight : p.weight ≤ MOST_WEIGHT
  pub above : p.weight * p.weight * (level_of p.visits * 2 ^ 24) < p.factor * p.factor
  pub bound : p.factor ≤ 2 ^ 29
