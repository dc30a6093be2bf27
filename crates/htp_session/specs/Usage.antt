-- What a conversation uses things up from. No clause of a public call cites this.
use Rattle.std.specs.Prelude.{◌≡◌, ℕ, Bool, List, []}
use Rattle.hex_engine.specs.declared.options.Options.{Options}
use Rattle.hex_devices.specs.Devices.{ShelfAndArchive}
use Rattle.hex_engine.specs.EngineState.{EngineState}
use Rattle.hex_engine.specs.Supply.{Supply, nothing_left, and_then}
use Rattle.hex_engine.specs.Uses.{Uses, UsesNothing}
use Rattle.hex_engine.specs.Replies.{NoTurn}
use Rattle.htp_session.specs.Talk.{TalkState, Short, ending_if}

-- this was used up since, and these fetches at the end came to nothing
abbrev pub UsesUp : Options → ShelfAndArchive → ShelfAndArchive → Supply → List Bool → Type 0
UsesUp options old new used in_vain = Uses options old.0 new.0 old.1 new.1 used in_vain

-- nothing was used up, and one fetch at most came to nothing
abbrev pub UsesUpNothing : Options → ShelfAndArchive → ShelfAndArchive → Type 0
UsesUpNothing options old new = UsesNothing options old.0 new.0 old.1 new.1

-- this says so: whatever is left after what was used up, this is said, and the conversation stands
-- here then
pub record AnswersWith (options : Options) (old new : ShelfAndArchive) (says : Supply → TalkState)
    (text : List ℕ) (after : EngineState) (quit : Bool) : Type 0 where
  pub used : Supply
  pub uses : UsesUp options old new used []
  pub is : (later : Supply)
      → says (and_then used later)
      ≡ record { text = text; at = after; left = later; ending = ending_if quit }

-- a turn is wanted, and nothing was used up
pub record Wants (options : Options) (old new : ShelfAndArchive) (at : EngineState)
    (says : Supply → TalkState) : Type 0 where
  pub uses : UsesUp options old new nothing_left []
  pub is : says nothing_left
      ≡ record { text = []; at = at; left = nothing_left; ending = Short NoTurn }
