-- What is planned once the solver was asked after the stone of a look-ahead.
use Rattle.std.proofs.Common.{◌≡◌, ◌≤◌, ◌+◌, ℕ, Bool, true, arith}
use Rattle.std.proofs.Common.{None, subst, sym}
use Rattle.std.specs.Prelude.{if◌then◌else◌, nat_lt}
use Rattle.std.proofs.lemmas.Bool.{and_parts}
use Rattle.hex_cells.specs.declared.colours.Colour.{Colour}
use Rattle.hex_board.specs.Positions.{Position}
use Rattle.hex_plan.specs.Good.{looks_ahead}
use Rattle.hex_plan.specs.Plans.{IsPlan, IsPlanned, IsPlannedFor, most_after, most_entered}
use Rattle.hex_plan.specs.Plans.{unlooked}
use Rattle.hex_plan.specs.Resting.{IsFoundPlan}
use Rattle.hex_plan.specs.declared.plans.Planned.{Planned}
use Rattle.hex_plan.specs.declared.settings.Means.{Means}
use Rattle.hex_plan.specs.declared.types.Plan.{Plan}
use Rattle.hex_plan.proofs.Certified.{IsBoard, plan_found}

-- the plan with another count
abbrev pub counted : Planned → ℕ → Planned
counted p n = record { plan = p.plan; loss = p.loss; entered = n }

-- the plan that is a win in place of a search
abbrev pub won : Plan → ℕ → Planned
won plan n = record { plan = plan; loss = None; entered = n }

-- a look-ahead needs connections
connects : (means : Means) → looks_ahead means ≡ true → means.hsearch ≡ true
connects means l = (and_parts means.hsearch (nat_lt 0 means.look) l).0

-- what was entered before a look-ahead and after its stone is within what may be entered
within_sum : (means : Means) (first second : ℕ) → means.hsearch ≡ true
    → first ≤ most_entered (unlooked means) → second ≤ most_after means
    → first + second ≤ most_entered means
within_sum means first second on f s =
    let few : first ≤ means.solve + 0
    = subst (λ (b : Bool). first ≤ (if b then means.solve + 0 else 0)) on f in
    subst (λ (b : Bool). first + second ≤ (if b then means.solve + most_after means else 0))
    (sym on) (omega (arith, few, s))

-- no certificate was found for it after the stone
pub is_counted : (means : Means) (board : Position) (player : Colour) (p : Planned) (second : ℕ)
    → looks_ahead means ≡ true → IsPlanned board player (unlooked means) p
    → second ≤ most_after means → IsPlanned board player means (counted p (p.entered + second))
is_counted means board player p second l first few =
    let on = connects means l in
    let n = p.entered + second in
    let plan : IsPlan board player p.plan
    = subst (λ (b : Bool). IsPlannedFor board player b p) on first.plan in
    record {
      plan = subst (λ (b : Bool). IsPlannedFor board player b (counted p n)) (sym on) plan;
      within = within_sum means p.entered second on first.within few;
      loss = first.loss;
    }

-- one was
pub is_won : (means : Means) (board : Position) (player : Colour) (p : Planned) (plan : Plan)
    (second : ℕ) → IsBoard board → looks_ahead means ≡ true
    → IsPlanned board player (unlooked means) p → second ≤ most_after means
    → IsFoundPlan board player plan → IsPlanned board player means (won plan (p.entered + second))
is_won means board player p plan second at l first few found =
    let on = connects means l in
    let n = p.entered + second in
    record {
      plan = subst (λ (b : Bool). IsPlannedFor board player b (won plan n)) (sym on)
          (plan_found board player plan at found);
      within = within_sum means p.entered second on first.within few;
      loss = tt;
    }
