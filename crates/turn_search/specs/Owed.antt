-- The turn that a session owes.
use Rattle.std.specs.Prelude.{◌≡◌, ◌⊎◌, ℕ}
use Rattle.hex_cells.specs.declared.colours.Colour.{Colour}
use Rattle.hex_board.specs.Positions.{Position}
use Rattle.tree_words.specs.declared.settings.Knobs.{Knobs}
use Rattle.hex_plan.specs.Good.{IsGood}
use Rattle.hex_plan.specs.Resting.{IsFoundPlan, RestsOn}
use Rattle.hex_plan.specs.Turns.{TurnData}
use Rattle.hex_plan.specs.declared.settings.Means.{Means}
use Rattle.hex_plan.specs.declared.types.Plan.{Plan}

-- a good turn of a session with these knobs and means: the one on the board now, with this player
-- to move, after so many turns
pub record IsOwed (knobs : Knobs) (means : Means) (now : Position) (mover : Colour)
    (turns : ℕ) (t : TurnData) : Type 0 where
  pub good : IsGood knobs means t
  pub board : t.board ≡ now
  pub player : t.player ≡ mover
  pub number : t.number ≡ turns

-- what the plan of a turn on the board may rest on: the same as before a look-ahead, or a
-- certificate that was found after it
abbrev pub MayRestOn : Position → Colour → Means → Plan → Type 0
MayRestOn now mover means plan =
    RestsOn now mover means.hsearch means.solve plan ⊎ IsFoundPlan now mover plan
