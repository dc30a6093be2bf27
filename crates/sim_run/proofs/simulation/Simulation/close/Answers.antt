-- The views are joined to one.
use Rattle.sim_run.proofs.Closing.{ends-closed}
use Rattle.sim_run.proofs.simulation.Simulation.close.Goals as goal

pub of-requires : goal.of-requires
of-requires c
    = ends-closed c.args.self.shape c.args.self.words.items c.args.self.walkers.items c.requires.underway c.requires.finished
