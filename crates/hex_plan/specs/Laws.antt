-- What the laws of good turns say: certified moves win, moves outside a threat lose, and one worker
-- decides.
use Rattle.std.specs.Prelude.{◌≡◌, ℕ, Bool, true, false, List, Some}
use Rattle.std.specs.List.{slice_get}
use Rattle.hex_cells.specs.Sets.{has}
use Rattle.hex_cells.specs.declared.colours.Colour.{Colour}
use Rattle.hex_board.specs.Positions.{Position, is_empty_at}
use Rattle.tree_words.specs.declared.settings.Knobs.{Knobs}
use Rattle.hex_plan.specs.Good.{IsGood}
use Rattle.hex_plan.specs.Plans.{IsWin, LosesBy, WinsBy}
use Rattle.hex_plan.specs.Reports.{reported_rows, sequential_rows}
use Rattle.hex_plan.specs.TurnTexts.{texts_of}
use Rattle.hex_plan.specs.Turns.{TurnData}
use Rattle.hex_plan.specs.declared.settings.Means.{Means}
use Rattle.hex_plan.specs.declared.threats.Threat.{Threat}
use Rattle.hex_plan.specs.declared.types.Plan.{Plan}
use Rattle.hex_plan.specs.declared.types.Plan.TheVariants.{Search}

-- ---- plans

-- each move outside the carrier of one of the plan's threats loses
abbrev pub LosesOutsideCarriers : Position → Colour → Plan → Type 0
LosesOutsideCarriers board player plan = (threats : List Threat) (allowed : ℕ) (lost : Bool)
    → plan ≡ Search threats allowed lost
    → (i : ℕ) (threat : Threat) → slice_get threats i ≡ Some threat
    → (k : ℕ) → is_empty_at board k ≡ true → has threat.carrier k ≡ false
    → LosesBy board player k

-- if the plan says that the board is lost, each move loses
abbrev pub LosesAsPlanned : Position → Colour → Plan → Type 0
LosesAsPlanned board player plan = (threats : List Threat) (allowed : ℕ)
    → plan ≡ Search threats allowed true
    → (k : ℕ) → is_empty_at board k ≡ true → LosesBy board player k

-- ---- turns

-- if the turn's plan is a win, its cell wins
abbrev pub IsCertified : TurnData → Type 0
IsCertified t = IsWin t.planned.plan → WinsBy t.board t.player t.cell

-- each move outside the carrier of one of the turn's threats loses
abbrev pub LosesOutsideThreats : TurnData → Type 0
LosesOutsideThreats t = LosesOutsideCarriers t.board t.player t.planned.plan

-- if the turn's plan says that the board is lost, each move loses
abbrev pub LosesWhereLost : TurnData → Type 0
LosesWhereLost t = LosesAsPlanned t.board t.player t.planned.plan

-- the report of a good turn without a look for connections is that of the sequential search
abbrev pub AreReportedInSequence : Knobs → Type 0
AreReportedInSequence knobs = (means : Means) → means.hsearch ≡ false → (t : TurnData)
    → IsGood knobs means t → reported_rows t ≡ sequential_rows t

-- of good turns without a look for connections the board, the player and the number determine the
-- cell, the report and the texts
abbrev pub AreDetermined : Knobs → Type 0
AreDetermined knobs = (means : Means) → means.hsearch ≡ false → (t u : TurnData)
    → IsGood knobs means t → IsGood knobs means u
    → t.board ≡ u.board → t.player ≡ u.player → t.number ≡ u.number
    → (t.cell ≡ u.cell) × (reported_rows t ≡ reported_rows u) × (texts_of t ≡ texts_of u)
