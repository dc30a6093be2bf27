-- Between two rounds.
use Rattle.std.proofs.Common.{◌≡◌, ℕ, length}
use Rattle.sim_run.specs.BetweenSteps.{IsUnderway, steps_to_come}
use Rattle.sim_run.specs.Steps.{StepsAlong, data_of, rounds}
use Rattle.sim_run.proofs.simulation.Simulation.finish.Given as goal

abbrev pub invariant-rounds : goal.invariant-rounds
invariant-rounds l = record {
  underway : IsUnderway l.self;
  shape : l.self.shape ≡ l.fn.self.shape;
  count : length l.self.walkers.items ≡ length l.fn.self.walkers.items;
  along : (turns : ℕ) × StepsAlong (data_of l.fn.self)
      (rounds (length l.fn.self.walkers.items) turns) (data_of l.self);
}

abbrev pub decreases-rounds : goal.decreases-rounds
decreases-rounds l = steps_to_come l.fn.self.shape (data_of l.self)
