-- The plan rests on the certificate that was found.
use Rattle.std.proofs.Common.{Option, subst}
use Rattle.std.specs.Prelude.{IfSome}
use Rattle.hex_plan.specs.Planning.{IsFoundFor}
use Rattle.hex_plan.specs.declared.solving.FoundPlan.{FoundPlan}
use Rattle.hex_plan.proofs.Sought.{solved}
use Rattle.hex_plan.proofs.planning.unjoined_plan.Goals as goal

pub returns-in-Some-clause-rests : goal.returns-in-Some-clause-rests
returns-in-Some-clause-rests c =
    let found : IsFoundFor c.args.board.now c.args.colour c.args.solve c.in-Some.field-0.plan
    c.in-Some.field-0.loss
    = subst (λ (o : Option FoundPlan). IfSome o
    (λ f. IsFoundFor c.args.board.now c.args.colour c.args.solve f.plan f.loss))
    c.in-Some.is c.in_ok-plan.ensures.found in
    solved c.args.solve c.args.board.now c.args.colour c.in-Some.field-0.plan found.some
    (record {
      found = found.found;
      own = c.args.own;
      own_report = c.requires.own;
      unjoined = c.requires.unjoined;
    })
