-- The cells that are searched are empty; and what the plan of a turn rests on.
use Rattle.std.proofs.Common.{◌≡◌, ◌||◌, ◌==◌, not, ℕ, Bool, true, Option, None, Some, refl, sym, ap}
use Rattle.std.proofs.Common.{◌∙◌, ◌⊎◌, inl, inr, subst}
use Rattle.std.specs.Prelude.{is_some}
use Rattle.std.proofs.lemmas.Bool.{eqb-true}
use Rattle.hex_cells.specs.Sets.{has, with_cell}
use Rattle.hex_cells.specs.declared.colours.Colour.{Colour}
use Rattle.hex_cells.proofs.Bits.{has_none}
use Rattle.hex_cells.proofs.WithCell.{has_with_cell}
use Rattle.hex_board.specs.Positions.{AllEmpty, Position, is_empty_at}
use Rattle.look_ahead.specs.Looked.{LookedData}
use Rattle.hex_plan.specs.Good.{IsLookedFor}
use Rattle.hex_plan.specs.Plans.{AllowsEmpties, IsSearchAmong, IsWin}
use Rattle.hex_plan.specs.Resting.{IsFoundPlan, RestsOn}
use Rattle.hex_plan.specs.Turns.{ChoseAmong, IsLookedAt, searched_cells}
use Rattle.hex_plan.specs.declared.settings.Means.{Means}
use Rattle.hex_plan.specs.declared.types.Plan.{Plan}
use Rattle.hex_plan.specs.declared.types.Plan.TheVariants.{Win, Search}
use Rattle.turn_search.specs.Owed.{MayRestOn}

-- a set of one cell has no other
in_one : (k j : ℕ) → has (with_cell 0 k) j ≡ true → j ≡ k
in_one k j e = eqb-true j k
    (sym (ap (λ (b : Bool). b || (j == k)) (has_none j)) ∙ (sym (has_with_cell 0 k j) ∙ e))

chosen_empty : (board : Position) (allowed : ℕ) (looked : Option LookedData)
    → AllEmpty board allowed → ChoseAmong allowed looked
    → AllEmpty board (searched_cells allowed looked)
chosen_empty board allowed None empty chosen = empty
chosen_empty board allowed (Some l) empty chosen = λ k e.
    subst (λ j. is_empty_at board j ≡ true) (sym (in_one l.cell k e))
    (empty l.cell (chosen l refl))

pub searched_empty : (board : Position) (plan : Plan) (allowed : ℕ) (looked : Option LookedData)
    → AllowsEmpties board plan → IsSearchAmong plan allowed → ChoseAmong allowed looked
    → AllEmpty board (searched_cells allowed looked)
searched_empty board (Win cert cell) allowed looked h among chosen = absurd among
searched_empty board (Search threats cells lost) allowed looked h among chosen
    = chosen_empty board allowed looked (subst (AllEmpty board) among h.1) chosen

-- a plan is a search among one set of cells
one_set : (plan : Plan) (allowed cells : ℕ) → IsSearchAmong plan allowed → IsSearchAmong plan cells
    → allowed ≡ cells
one_set (Win cert cell) allowed cells h g = absurd h
one_set (Search threats both lost) allowed cells h g = sym h ∙ g

-- the look-ahead is one of what the plan allows
pub looked_for : (board : Position) (player : Colour) (plan : Plan) (allowed budget : ℕ)
    (looked : Option LookedData) → IsSearchAmong plan allowed
    → IsLookedAt board player allowed budget looked → IsLookedFor board player plan budget looked
looked_for board player plan allowed budget looked among at cells is =
    subst (λ set. IsLookedAt board player set budget looked)
    (one_set plan allowed cells among is) at

-- a plan after a look-ahead that is no win is the one before
pub as_before : (plan new : Plan) → (IsWin new → ⊥) → IsWin new ⊎ (new ≡ plan) → new ≡ plan
as_before plan new n (inl w) = absurd (n w)
as_before plan new n (inr e) = e

-- nobody is joined on a board on which a turn may be made
pub nobody : {C : Type 0} (o : Option C) → not (is_some o) ≡ true → o ≡ None
nobody None e = refl
nobody (Some c) e = absurd (cc)

-- the plan after a look-ahead rests on what the one before rests on, or was found
pub may_rest : (now : Position) (mover : Colour) (means : Means) (plan new : Plan)
    → RestsOn now mover means.hsearch means.solve plan
    → IsFoundPlan now mover new ⊎ (new ≡ plan) → MayRestOn now mover means new
may_rest now mover means plan new rests (inl found) = inr found
may_rest now mover means plan new rests (inr same)
    = inl (subst (RestsOn now mover means.hsearch means.solve) (sym same) rests)
