-- A new walker for each worker so far, and room for the others.
use Rattle.std.proofs.Common.{◌≡◌, ◌≤◌, All, length, vec_capacity}
use Rattle.sim_run.specs.BetweenSteps.{IsNew}
use Rattle.sim_run.proofs.walkers.new_walkers.Given as goal

abbrev pub invariant-workers : goal.invariant-workers
invariant-workers l = record {
  each : All (IsNew l.shape) l.walkers.items;
  count : length l.walkers.items ≡ l.counter;
  room : l.workers ≤ vec_capacity l.walkers;
}
