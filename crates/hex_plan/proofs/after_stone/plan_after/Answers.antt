-- The plan is a win by a certificate that was found, and what was entered is within both budgets.
use Rattle.std.proofs.Common.{◌≤◌, ℕ, sym, ◌∙◌, subst, Option, inl}
use Rattle.std.specs.Prelude.{IfSome}
use Rattle.hex_plan.specs.Resting.{IsFoundPlan}
use Rattle.hex_plan.specs.declared.solving.FoundPlan.{FoundPlan}
use Rattle.hex_plan.proofs.AfterStone.{is_won}
use Rattle.hex_plan.proofs.after_stone.plan_after.Goals as goal

-- what was found
pub returns-in-Some-found-clause-found : goal.returns-in-Some-found-clause-found
returns-in-Some-found-clause-found c = inl
    (subst (λ (o : Option FoundPlan). IfSome o (λ f. IsFoundPlan c.args.board.now c.args.colour f.plan))
    c.in-Some-found.is c.in_ok-found.ensures.plan)

pub returns-in-Some-found-clause-planned : goal.returns-in-Some-found-clause-planned
returns-in-Some-found-clause-planned c =
    let more = c.in_ok-found.field-0.entered in
    is_won c.args.means c.args.board.now c.args.colour c.args.planned c.in-Some-found.field-0.plan
    more c.keeps.ensures.position (sym c.looks_ahead.ensures ∙ c.if-not-looks_ahead.false)
    c.requires.planned
    (subst (λ (n : ℕ). more ≤ n) c.most_after.ensures c.in_ok-found.ensures.within)
    (subst (λ (o : Option FoundPlan). IfSome o (λ f. IsFoundPlan c.args.board.now c.args.colour f.plan))
    c.in-Some-found.is c.in_ok-found.ensures.plan)
