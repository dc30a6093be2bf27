-- What is planned with a budget for certificates.
use Rattle.std.proofs.Common.{◌≡◌, ◌⊎◌, ◌<◌, ◌≤◌, ◌+◌, ℕ, Bool, true, false, inl, inr, zero, suc, arith}
use Rattle.std.proofs.Common.{Option, Some, None, subst, sym}
use Rattle.std.specs.Prelude.{IfOk, Ok, Err, Result, if◌then◌else◌}
use Rattle.hex_cells.specs.declared.colours.Colour.{Colour}
use Rattle.hex_board.specs.Positions.{Position}
use Rattle.win_cert.specs.declared.certs.Cert.{Cert}
use Rattle.hex_plan.specs.Plans.{IsLossOf, IsPlan, IsPlanned, IsPlannedFor, most_after}
use Rattle.hex_plan.specs.Plans.{unlooked}
use Rattle.hex_plan.specs.Resting.{IsConnected, IsSolved, RestsOn}
use Rattle.hex_plan.specs.Turns.{CanBeWritten}
use Rattle.hex_plan.specs.declared.plans.Planned.{Planned}
use Rattle.hex_plan.specs.declared.settings.Means.{Means}
use Rattle.hex_plan.specs.declared.types.Plan.{Plan}
use Rattle.hex_plan.proofs.Certified.{IsBoard, plan_connected, plan_found}

-- whatever the budget, a plan may rest on connections
sought : (budget : ℕ) (board : Position) (player : Colour) (plan : Plan)
    → IsConnected board player plan → RestsOn board player true budget plan
sought zero board player plan h = h
sought (suc m) board player plan h = inl h

pub if_sought : {E : Type 0} (budget : ℕ) (board : Position) (player : Colour)
    (r : Result Planned E) → IfOk r (λ (p : Planned). IsConnected board player p.plan)
    → IfOk r (λ (p : Planned). RestsOn board player true budget p.plan)
if_sought budget board player (Ok p) h = sought budget board player p.plan h
if_sought budget board player (Err e) h = tt

-- with a budget, on a certificate
pub solved : (budget : ℕ) (board : Position) (player : Colour) (plan : Plan) → 0 < budget
    → IsSolved board player plan → RestsOn board player true budget plan
solved zero board player plan l h = absurd (omega (arith, l))
solved (suc n) board player plan l h = inr h

-- and on nothing else
pub rests : (budget : ℕ) (board : Position) (player : Colour) (plan : Plan)
    → RestsOn board player true budget plan
    → IsConnected board player plan ⊎ IsSolved board player plan
rests zero board player plan h = inl h
rests (suc m) board player plan h = h

-- what it rests on certifies it
resting_plan : (budget : ℕ) (board : Position) (player : Colour) (plan : Plan) → IsBoard board
    → RestsOn board player true budget plan → IsPlan board player plan
resting_plan budget board player plan on h = elim (rests budget board player plan h) [
  | inl g ↦ plan_connected board player plan on g
  | inr g ↦ plan_found board player plan on g.found
]

-- where no position was entered, at most any number were
pub none_within : {E : Type 0} (most : ℕ) (r : Result Planned E)
    → IfOk r (λ (p : Planned). p.entered ≡ 0) → IfOk r (λ (p : Planned). p.entered ≤ most)
none_within most (Ok p) h = let none : p.entered ≡ 0 = h in omega (arith, none)
none_within most (Err e) h = tt

-- with a look for connections, what a plan rests on and what was entered for it make what is
-- planned before a look-ahead
pub if_planned : {E : Type 0} (means : Means) (board : Position) (player : Colour)
    (r : Result Planned E) → IsBoard board → means.hsearch ≡ true
    → IfOk r (λ (p : Planned). RestsOn board player true means.solve p.plan)
    → IfOk r (λ (p : Planned). p.entered ≤ means.solve)
    → IfOk r (λ (p : Planned). IsLossOf board player p.plan p.loss)
    → IfOk r (IsPlanned board player (unlooked means))
if_planned means board player (Ok p) at on h w l = record {
  plan = subst (λ (b : Bool). IsPlannedFor board player b p) (sym on)
      (resting_plan means.solve board player p.plan at h);
  within = subst (λ (b : Bool). p.entered ≤ (if b then means.solve + 0 else 0)) (sym on)
      (omega (arith, w));
  loss = l;
}
if_planned means board player (Err e) at on h w l = tt

-- so with the means as they are
pub if_rests : {E : Type 0} (means : Means) (board : Position) (player : Colour)
    (r : Result Planned E) → means.hsearch ≡ true
    → IfOk r (λ (p : Planned). RestsOn board player true means.solve p.plan)
    → IfOk r (λ (p : Planned). RestsOn board player means.hsearch means.solve p.plan)
if_rests means board player (Ok p) on h =
    subst (λ (b : Bool). RestsOn board player b means.solve p.plan) (sym on) h
if_rests means board player (Err e) on h = tt

within_more : (hsearch : Bool) (entered solve more : ℕ)
    → entered ≤ (if hsearch then solve + 0 else 0) → entered ≤ (if hsearch then solve + more else 0)
within_more false entered solve more l = l
within_more true entered solve more l = omega (arith, l)

-- what is planned before a look-ahead is planned with one too
pub planned_more : (means : Means) (board : Position) (player : Colour) (p : Planned)
    → IsPlanned board player (unlooked means) p → IsPlanned board player means p
planned_more means board player p h = record {
  plan = h.plan;
  within = within_more means.hsearch p.entered means.solve (most_after means) h.within;
  loss = h.loss;
}

pub if_planned_more : {E : Type 0} (means : Means) (board : Position) (player : Colour)
    (r : Result Planned E) → IfOk r (IsPlanned board player (unlooked means))
    → IfOk r (IsPlanned board player means)
if_planned_more means board player (Ok p) h = planned_more means board player p h
if_planned_more means board player (Err e) h = tt

-- where there is no certificate of a loss
pub no_loss : {E : Type 0} (board : Position) (player : Colour) (r : Result Planned E)
    → IfOk r (λ (p : Planned). p.loss ≡ None)
    → IfOk r (λ (p : Planned). IsLossOf board player p.plan p.loss)
no_loss board player (Ok p) h = subst (IsLossOf board player p.plan) (sym h) tt
no_loss board player (Err e) h = tt

-- a certificate of a loss can be written
pub can_write : (board : Position) (player : Colour) (plan : Plan) (loss : Option Cert)
    → IsLossOf board player plan loss → CanBeWritten loss
can_write board player plan None h = tt
can_write board player plan (Some cert) h = h.1.writable

pub if_written : {E : Type 0} (board : Position) (player : Colour) (r : Result Planned E)
    → IfOk r (λ (p : Planned). IsLossOf board player p.plan p.loss)
    → IfOk r (λ (p : Planned). CanBeWritten p.loss)
if_written board player (Ok p) h = can_write board player p.plan p.loss h
if_written board player (Err e) h = tt
