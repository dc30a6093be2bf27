-- One more entry.
use Rattle.std.proofs.Common.{rules, ◌≡◌, ◌∙◌, get_or}
use Rattle.sim_run.specs.Steps.{data_of}
use Rattle.sim_run.proofs.Along.{along-entry}
use Rattle.sim_run.proofs.simulation.Simulation.follow.Goals as goal

pub entries-preserved : goal.entries-preserved
entries-preserved c =
    let was = c.entries.invariant in
    let entry : c.from.result ≡ get_or c.args.schedule.now c.entries.id-index 0 = search rules in
    record {
      underway = c.step.ensures.underway;
      shape = c.step.ensures.shape ∙ was.shape;
      count = c.step.ensures.count ∙ was.count;
      along = along-entry (data_of c.args.self.now) (data_of c.entries.self)
          (data_of c.step.new.self) c.step.result c.args.schedule.now c.entries.id-index c.from.result 0
          c.entries-test.true entry was.along c.step.ensures.step;
    }
