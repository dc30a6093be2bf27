use Rattle.std.proofs.Common.{◌≡◌, ◌++◌, ◌-◌, ◌<◌, ◌≤◌, map, length, All}
use Rattle.play_out.specs.Streams.{stream_at, words_of}
use Rattle.turn_modes.specs.Schedules.{schedule_of, worker_of}
use Rattle.turn_modes.proofs.schedules.schedule.Given as goal

abbrev pub invariant-steps : goal.invariant-steps
invariant-steps l = record {
  within : length l.list.items ≤ l.steps;
  rest : l.list.items ++ map (worker_of l.workers)
      (words_of (l.steps - length l.list.items) (stream_at l.generator)) ≡ schedule_of l.workers
      l.fn.seed l.steps;
  below : All (λ worker. worker < l.workers) l.list.items;
}

abbrev pub decreases-steps : goal.decreases-steps
decreases-steps l = l.steps - length l.list.items
