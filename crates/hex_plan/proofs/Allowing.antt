-- The allowed cells of a plan are empty, and there is one.
use Rattle.std.proofs.Common.{◌≡◌, ◌*◌, ℕ, Bool, true, false, List, refl, sym, ◌∙◌, subst, arith}
use Rattle.std.proofs.Common.{inl, inr}
use Rattle.std.specs.Prelude.{IfOk, Ok, Err, Result}
use Rattle.std.specs.List.{list_any}
use Rattle.std.proofs.lemmas.Bool.{both_ways}
use Rattle.hex_cells.specs.Sets.{has}
use Rattle.hex_cells.specs.declared.colours.Colour.{Colour}
use Rattle.hex_board.specs.Joined.{cells_of}
use Rattle.hex_board.specs.Positions.{AllEmpty, Position, is_empty_at}
use Rattle.hex_board.proofs.Placed.{empty_on}
use Rattle.hex_board.proofs.Search.{any_in, any_out}
use Rattle.tree_words.specs.Complete.{HasEmpties}
use Rattle.tree_words.specs.Settings.{IsAny}
use Rattle.hex_plan.specs.Plans.{AllowsEmpties, IsFree}
use Rattle.hex_plan.specs.Resting.{IsConnected, IsFoundPlan, IsMustplay, RestsOn}
use Rattle.hex_plan.specs.declared.plans.Planned.{Planned}
use Rattle.hex_plan.proofs.Sought.{rests}
use Rattle.hex_plan.specs.declared.threats.Threat.{Threat}
use Rattle.hex_plan.specs.declared.types.Plan.{Plan}
use Rattle.hex_plan.specs.declared.types.Plan.TheVariants.{Win, Search}

-- the board has an empty cell
abbrev pub HasRoom : Position → Type 0
HasRoom board = (k : ℕ) × (is_empty_at board k ≡ true)

empties_allowed : (board : Position) (allowed : ℕ) → HasEmpties allowed board → HasRoom board
    → IsAny allowed × AllEmpty board allowed
empties_allowed board allowed h w = ((w.0, h.items w.0 ∙ w.1), λ k i. sym (h.items k) ∙ i)

-- a set of empty cells that is not known to have none has one
some_cell : (board : Position) (set : ℕ) → AllEmpty board set
    → (((k : ℕ) → has set k ≡ true → ⊥) → ⊥) → IsAny set
some_cell board set empty f = by_test (list_any (has set) (cells_of board.size)) refl
  where
    by_test : (b : Bool) → list_any (has set) (cells_of board.size) ≡ b → IsAny set
    by_test true e = let w = any_out (has set) 0 (board.size * board.size) e in (w.0, w.2)
    by_test false e = absurd (f (λ k h.
        both_ways (list_any (has set) (cells_of board.size)) e
        (any_in (has set) 0 (board.size * board.size) k (omega arith) (omega (arith, empty_on board k (empty k h))) h)))

region_allowed : (board : Position) (threats : List Threat) (allowed : ℕ) (lost : Bool)
    → IsMustplay board threats allowed lost → HasRoom board → IsAny allowed × AllEmpty board allowed
region_allowed board threats allowed true m w = empties_allowed board allowed (m.free refl) w
region_allowed board threats allowed false m w =
    let n = m.narrowed refl in
    let empty : AllEmpty board allowed = λ k i. ((n k).0 i).0 in
    (some_cell board allowed empty (λ f. not_lost (m.none.1 (λ k i. f k ((n k).1 i)))), empty)
  where
    not_lost : false ≡ true → ⊥
    not_lost e = absurd (cc)

by_connections : (board : Position) (player : Colour) (plan : Plan) → IsConnected board player plan
    → HasRoom board → AllowsEmpties board plan
by_connections board player (Win cert cell) h w = tt
by_connections board player (Search threats allowed lost) (d, e, n) w
    = region_allowed board threats allowed lost n.mustplay w

-- the plan by a certificate that was found
by_found : (board : Position) (player : Colour) (plan : Plan) → IsFoundPlan board player plan
    → HasRoom board → AllowsEmpties board plan
by_found board player (Win cert cell) h w = tt
by_found board player (Search threats allowed lost) (threat, is, found, empties, l) w
    = empties_allowed board allowed empties w

resting_allows : (board : Position) (player : Colour) (budget : ℕ) (plan : Plan)
    → RestsOn board player true budget plan → HasRoom board → AllowsEmpties board plan
resting_allows board player budget plan h w = elim (rests budget board player plan h) [
  | inl g ↦ by_connections board player plan g w
  | inr g ↦ by_found board player plan g.found w
]

pub if_allows : {E : Type 0} (board : Position) (player : Colour) (budget : ℕ)
    (r : Result Planned E) → HasRoom board
    → IfOk r (λ (p : Planned). RestsOn board player true budget p.plan)
    → IfOk r (λ (p : Planned). AllowsEmpties board p.plan)
if_allows board player budget (Ok p) w h = resting_allows board player budget p.plan h w
if_allows board player budget (Err e) w h = tt

-- without a look for connections
pub free_allows : (board : Position) (p : Planned) → HasRoom board → IsFree board p
    → AllowsEmpties board p.plan
free_allows board p w h = subst (λ (v : Plan). AllowsEmpties board v) (sym h.plan)
    (empties_allowed board h.allowed h.empties w)
