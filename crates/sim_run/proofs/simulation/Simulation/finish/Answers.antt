-- One more round; or no walker had a step left.
use Rattle.std.proofs.Common.{rules, ◌≡◌, ◌<◌, true, false, suc, ◌∙◌, length, subst}
use Rattle.tree_words.specs.Settings.{Setting}
use Rattle.sim_run.specs.Steps.{data_of}
use Rattle.sim_run.specs.BetweenSteps.{steps_to_come}
use Rattle.sim_run.proofs.Along.{along-round}
use Rattle.sim_run.proofs.simulation.Simulation.finish.Goals as goal

pub rounds-preserved : goal.rounds-preserved
rounds-preserved c =
    let was = c.rounds.invariant in
    record {
      underway = c.round.ensures.underway;
      shape = c.round.ensures.shape ∙ was.shape;
      count = c.round.ensures.count ∙ was.count;
      along = (
        suc was.along.0,
        along-round (data_of c.args.self.now) (data_of c.rounds.self) (data_of c.round.new.self)
            (length c.args.self.now.walkers.items)
            (length c.rounds.self.walkers.items) was.along.0 was.count was.along.1 c.round.ensures.round,
      );
    }

pub rounds-smaller : goal.rounds-smaller
rounds-smaller c =
    let some : c.round.result ≡ true = search rules in
    subst (λ (s : Setting). steps_to_come s (data_of c.round.new.self) < steps_to_come s (data_of c.rounds.self)) c.rounds.invariant.shape
    (c.round.ensures.some some)

pub returns-then-not-round-clause-rounds : goal.returns-then-not-round-clause-rounds
returns-then-not-round-clause-rounds c =
    let was = c.rounds.invariant in (
      suc was.along.0,
      along-round (data_of c.args.self.now) (data_of c.rounds.self) (data_of c.round.new.self)
          (length c.args.self.now.walkers.items)
          (length c.rounds.self.walkers.items) was.along.0 was.count was.along.1 c.round.ensures.round,
    )

pub returns-then-not-round-clause-finished : goal.returns-then-not-round-clause-finished
returns-then-not-round-clause-finished c = let none : c.round.result ≡ false = search rules in
    c.round.ensures.none none
