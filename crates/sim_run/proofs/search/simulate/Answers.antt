-- No number is a stray one if none was found, and want of memory is another error.
use Rattle.std.proofs.Common.{rules, ◌≡◌, ℕ, ◌<◌, List, length, ◌++◌, None, Err, slice_index_or}
use Rattle.std.proofs.Common.{sym, ◌∙◌, subst}
use Rattle.arena_rule.proofs.Options.{none-some}
use Rattle.sim_run.specs.Schedules.{first_stray}
use Rattle.sim_run.specs.declared.errors.SimError.TheVariants.{Memory}
use Rattle.sim_run.specs.Steps.{StepsAlong, data_of, rounds}
use Rattle.sim_run.proofs.Along.{along-both}
use Rattle.sim_run.proofs.Strays.{none-stray}
use Rattle.sim_run.proofs.search.simulate.Goals as goal

pub returns-in_err-run-clause-no_walker : goal.returns-in_err-run-clause-no_walker
returns-in_err-run-clause-no_walker c at =
    let memory : c.from_residual.result ≡ Err Memory = search rules in
    let none : first_stray c.args.shape.now c.args.schedule.now ≡ None = search rules in
    (λ e. cc, λ e. absurd (none-some (sym none ∙ e)))

pub follow-requires-clause-ids : goal.follow-requires-clause-ids
follow-requires-clause-ids c k d l =
    let none : first_stray c.args.shape.now c.args.schedule.now ≡ None = search rules in
    subst (λ (n : ℕ). slice_index_or c.args.schedule.now k d < n)
    (sym c.in_ok-run.ensures.walkers.count)
    (none-stray c.args.shape.now c.args.schedule.now none k d l)

-- the steps of the schedule, and then those of the rounds
pub returns-clause-schedule : goal.returns-clause-schedule
returns-clause-schedule c =
    let s = c.args.shape.now in
    let ids : List ℕ = c.args.schedule.now in
    let run = c.in_ok-run.run' in
    let turns : ℕ = c.finish.ensures.rounds.0 in
    let ended = c.finish.new.self.walkers.items in
    let workers : length c.follow.new.self.walkers.items ≡ s.knobs.workers = c.follow.ensures.count
    ∙ c.in_ok-run.ensures.walkers.count in
    let all = along-both (data_of run) (data_of c.follow.new.self) (data_of c.finish.new.self) ids
    (rounds (length c.follow.new.self.walkers.items) turns) c.follow.ensures.along c.finish.ensures.rounds.1 in
    record {
      begun = run.walkers.items;
      new = c.in_ok-run.ensures.walkers;
      turns = turns;
      ended = ended;
      along = subst (λ (l : List ℕ). StepsAlong (record { words = l; walkers = run.walkers.items }) (ids
          ++ rounds s.knobs.workers turns) (record { words = c.close.result.words; walkers = ended })) c.in_ok-run.ensures.words
          (subst (λ (l : List ℕ). StepsAlong (data_of run) (ids ++ rounds s.knobs.workers turns) (record {
            words = l;
            walkers = ended;
          })) (sym c.close.ensures.words)
          (subst (λ (k : ℕ). StepsAlong (data_of run) (ids ++ rounds k turns) (data_of c.finish.new.self)) workers all));
      finished = c.finish.ensures.finished;
    }
