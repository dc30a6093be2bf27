-- New walkers, over the opening words.
use Rattle.std.proofs.Common.{ℕ, List, sym, subst}
use Rattle.sim_run.specs.BetweenSteps.{AreSimulated}
use Rattle.sim_run.proofs.Beginning.{begins-simulated}
use Rattle.sim_run.proofs.simulation.Simulation.make.Goals as goal

pub returns-clause-underway : goal.returns-clause-underway
returns-clause-underway c =
    let s = c.args.shape.now in
    let walkers = c.in_ok-walkers.walkers.items in
    subst (λ (words : List ℕ). AreSimulated s words walkers) (sym c.in_ok-words.ensures)
    (begins-simulated s c.keeps.ensures.setting walkers c.in_ok-walkers.ensures)
