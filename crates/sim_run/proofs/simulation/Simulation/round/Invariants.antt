-- Between two steps of a round.
use Rattle.std.proofs.Common.{◌≡◌, length}
use Rattle.std.specs.List.{range_with_len}
use Rattle.sim_run.specs.BetweenSteps.{IsUnderway}
use Rattle.sim_run.specs.Steps.{StepsAlong, data_of}
use Rattle.sim_run.proofs.Rounds.{HaveStepped}
use Rattle.sim_run.proofs.simulation.Simulation.round.Given as goal

abbrev pub invariant-walkers : goal.invariant-walkers
invariant-walkers l = record {
  underway : IsUnderway l.self;
  shape : l.self.shape ≡ l.fn.self.shape;
  end : l.id-end ≡ length l.fn.self.walkers.items;
  count : length l.self.walkers.items ≡ length l.fn.self.walkers.items;
  along : StepsAlong (data_of l.fn.self) (range_with_len 0 l.id) (data_of l.self);
  turns : HaveStepped l.fn.self.shape (data_of l.fn.self) (data_of l.self) l.stepped l.id;
}
