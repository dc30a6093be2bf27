-- What good turns say of winning: certified moves win, and moves outside a threat lose.
use Rattle.std.proofs.Common.{◌≡◌, ℕ, [], List, Bool, true, false, Some, refl, sym, ◌∙◌, subst}
use Rattle.std.specs.List.{slice_get}
use Rattle.hex_cells.specs.declared.colours.Colour.{Colour}
use Rattle.hex_board.specs.Positions.{Position}
use Rattle.tree_words.specs.declared.settings.Knobs.{Knobs}
use Rattle.hex_plan.specs.Good.{FollowsPlan, IsGood}
use Rattle.hex_plan.specs.Laws.{IsCertified, LosesAsPlanned, LosesOutsideCarriers}
use Rattle.hex_plan.specs.Laws.{LosesOutsideThreats, LosesWhereLost}
use Rattle.hex_plan.specs.Plans.{IsCertifiedThreat, IsPlan, IsPlannedFor, IsWin, IsWinBy}
use Rattle.hex_plan.specs.Turns.{TurnData}
use Rattle.hex_plan.specs.declared.plans.Planned.{Planned}
use Rattle.hex_plan.specs.declared.settings.Means.{Means}
use Rattle.hex_plan.specs.declared.threats.Threat.{Threat}
use Rattle.hex_plan.specs.declared.types.Plan.{Plan}
use Rattle.hex_plan.specs.declared.types.Plan.TheVariants.{Win, Search}
use Rattle.hex_plan.proofs.Certified.{at_one}
use Rattle.hex_plan.proofs.PlanLaws.{planned_win}

-- ---- wins

win_by : (knobs : Knobs) (means : Means) (t : TurnData) (plan : Plan)
    → FollowsPlan knobs means t plan → IsWin plan → IsWinBy plan t.cell
win_by knobs means t (Win cert cell) f w = sym f.2
win_by knobs means t (Search threats allowed lost) f w = absurd w

pub is_certified : (knobs : Knobs) (means : Means) (t : TurnData) → IsGood knobs means t
    → IsCertified t
is_certified knobs means t g w =
    let won = win_by knobs means t t.planned.plan g.follows w in
    let (cert, is, wins) = planned_win t.board t.player means t.planned t.cell g.planned won in
    wins.wins

-- ---- searches

loses_outside : (board : Position) (player : Colour) (hsearch : Bool) (p : Planned)
    → IsPlannedFor board player hsearch p → LosesOutsideCarriers board player p.plan
loses_outside board player true p h threats allowed lost q i threat s k empty out =
    let search = subst (IsPlan board player) q h in
    (at_one (IsCertifiedThreat board player) threats i threat search.certified s).outside k empty out
loses_outside board player false p h threats allowed lost q i threat s k empty out
    = absurd (none threats h.allowed allowed lost i threat (sym h.plan ∙ q) s)
  where
    none : (threats : List Threat) (a b : ℕ) (lost : Bool) (i : ℕ) (threat : Threat)
        → Search [] a false ≡ Search threats b lost → slice_get threats i ≡ Some threat → ⊥
    none threats a b lost i threat e s =
        let empty : threats ≡ [] = cc in
        let at : slice_get [] i ≡ Some threat
        = subst (λ (v : List Threat). slice_get v i ≡ Some threat) empty s in absurd (cc)

pub outside_loses : (knobs : Knobs) (means : Means) (t : TurnData) → IsGood knobs means t
    → LosesOutsideThreats t
outside_loses knobs means t g
    = loses_outside t.board t.player means.hsearch t.planned g.planned.plan

loses_lost : (board : Position) (player : Colour) (hsearch : Bool) (p : Planned)
    → IsPlannedFor board player hsearch p → LosesAsPlanned board player p.plan
loses_lost board player true p h threats allowed q k empty =
    (subst (IsPlan board player) q h).loses refl k empty
loses_lost board player false p h threats allowed q k empty
    = absurd (free threats h.allowed allowed (sym h.plan ∙ q))
  where
    free : (threats : List Threat) (a b : ℕ) → Search [] a false ≡ Search threats b true → ⊥
    free threats a b e = absurd (cc)

pub lost_loses : (knobs : Knobs) (means : Means) (t : TurnData) → IsGood knobs means t
    → LosesWhereLost t
lost_loses knobs means t g = loses_lost t.board t.player means.hsearch t.planned g.planned.plan
