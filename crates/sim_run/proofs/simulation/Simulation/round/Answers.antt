-- One more walker had its turn.
use Rattle.std.proofs.Common.{rules, ◌≡◌, ◌<◌, Bool, IfSome, true, false, is_some, sym, ◌∙◌, ◌+◌}
use Rattle.std.proofs.Common.{subst, arith}
use Rattle.tree_words.specs.Settings.{Setting}
use Rattle.sim_run.specs.BetweenSteps.{steps_to_come}
use Rattle.sim_run.specs.Steps.{data_of}
use Rattle.sim_run.proofs.Along.{along-worker}
use Rattle.sim_run.proofs.Rounds.{HaveStepped, round-stepped, round-passed, round-over}
use Rattle.sim_run.proofs.simulation.Simulation.round.Goals.{then-is_some, else-is_some}
use Rattle.sim_run.proofs.simulation.Simulation.round.Goals as goal

pub walkers-preserved : goal.walkers-preserved
walkers-preserved c =
    let was = c.walkers.invariant in
    let s : Setting = c.args.self.now.shape in
    let start = data_of c.args.self.now in
    let old = data_of c.walkers.self in
    let new = data_of c.step.new.self in
    let fewer : IfSome c.step.result (λ _. steps_to_come s new < steps_to_come s old)
    = subst (λ (t : Setting). IfSome c.step.result (λ _. steps_to_come t new < steps_to_come t old)) was.shape c.step.ensures.fewer in
    let turns : HaveStepped s start new c.if-is_some.stepped (c.walkers.id + 1)
    = elim c.if-is_some.branch [
      | then-is_some w ↦
          let made : is_some c.step.result ≡ true = search rules in
          subst (λ (b : Bool). HaveStepped s start new b (c.walkers.id + 1)) (sym w.stepped-is)
          (round-stepped s start old new c.walkers.stepped c.walkers.id c.step.result was.turns c.step.ensures.step fewer made)
      | else-is_some w ↦
          let made : is_some c.step.result ≡ false = search rules in
          subst (λ (b : Bool). HaveStepped s start new b (c.walkers.id + 1)) (sym w.stepped-is)
          (round-passed s start old new c.walkers.stepped c.walkers.id c.step.result was.turns c.step.ensures.step fewer made)
    ] in
    record {
      underway = c.step.ensures.underway;
      shape = c.step.ensures.shape ∙ was.shape;
      end = was.end;
      count = c.step.ensures.count ∙ was.count;
      along = along-worker start old new c.step.result c.walkers.id was.along c.step.ensures.step;
      turns = turns;
    }

pub returns-clause-none : goal.returns-clause-none
returns-clause-none c e =
    let was = c.walkers.invariant in
    round-over c.args.self.now.shape (data_of c.args.self.now)
    (data_of c.walkers.self) c.walkers.stepped c.walkers.id was.turns
    (omega (arith, was.end, was.count, c.walkers-test.false)) e
