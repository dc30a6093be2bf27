use Rattle.uct_table.proofs.Levels.{level_small}
use Rattle.uct_table.proofs.scoring.level.Goals as goal

pub returns-clause-bound : goal.returns-clause-bound
returns-clause-bound c = level_small c.ilog2-power.result c.args.p c.ilog2-power.ensures.power_le c.ilog2-power.ensures.next_power_gt c.requires
