-- Between two entries of a schedule.
use Rattle.std.proofs.Common.{◌≡◌, length, take}
use Rattle.sim_run.specs.BetweenSteps.{IsUnderway}
use Rattle.sim_run.specs.Steps.{StepsAlong, data_of}
use Rattle.sim_run.proofs.simulation.Simulation.follow.Given as goal

abbrev pub invariant-entries : goal.invariant-entries
invariant-entries l = record {
  underway : IsUnderway l.self;
  shape : l.self.shape ≡ l.fn.self.shape;
  count : length l.self.walkers.items ≡ length l.fn.self.walkers.items;
  along : StepsAlong (data_of l.fn.self) (take l.id-index l.schedule) (data_of l.self);
}
