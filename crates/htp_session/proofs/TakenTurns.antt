-- Whether an answered request takes a turn, and that it keeps the options.
use Rattle.std.proofs.Common.{◌≡◌, ℕ, Bool, true, false, cond, List, [], ◌∷◌, Option, Some, None}
use Rattle.std.proofs.Common.{Result, Ok, Err, ◌⊎◌, inl, inr, refl}
use Rattle.std.specs.Str.{bytes_eq}
use Rattle.htp_line.specs.declared.request.Request.{Request}
use Rattle.hex_cells.specs.declared.colours.Colour.{Colour}
use Rattle.hex_game.specs.Games.{board_of}
use Rattle.hex_plan.specs.Turns.{TurnData}
use Rattle.hex_plan.specs.Openings.{may_move}
use Rattle.hex_engine.specs.Commands.{command_named}
use Rattle.hex_engine.specs.EngineState.{EngineState}
use Rattle.hex_engine.specs.Supply.{Supply, Load}
use Rattle.hex_engine.specs.declared.loadsgf.Loaded.{Loaded}
use Rattle.hex_engine.specs.declared.loadsgf.Loaded.TheVariants.{Unread, Refused, Loads}
use Rattle.hex_engine.specs.Replies.{Turned, Missing}
use Rattle.hex_engine.specs.LoadReplies.{loaded, file_named, loading_next, loading_by}
use Rattle.hex_engine.specs.MoveReplies.{is_next, turned, moving_next, moving_by, lone_colour}
use Rattle.hex_engine.specs.Requests.{obeyed, reaction_by, reaction}
use Rattle.hex_engine.specs.declared.commands.Command.{Command}
use Rattle.hex_engine.specs.declared.commands.Command.TheVariants as command
use Rattle.hex_engine.specs.declared.commands.Using.TheVariants as using

-- the next turn was taken: it is the conversation's next of this colour, and its cell was played
-- and answered
pub record TakesTurn (at : EngineState) (left : Supply) (t : Turned) : Type 0 where
  pub turn : TurnData
  pub colour : Colour
  pub was : left.turns ≡ turn ∷ t.left.turns
  pub next : is_next at colour turn ≡ true
  pub after : t.after ≡ (turned at colour turn).after
  pub reply : t.reply ≡ (turned at colour turn).reply

-- where there is an answer, no turn was taken, or the next one
abbrev pub MayTakeTurn : EngineState → Supply → Result Turned Missing → Type 0
MayTakeTurn at left (Ok t)
    = ((t.left.turns ≡ left.turns) × (t.after.turns ≡ at.turns)) ⊎ TakesTurn at left t
MayTakeTurn at left (Err missing) = Unit {0}

-- the options are kept, where there is an answer
abbrev pub KeepsOptions : EngineState → Result Turned Missing → Type 0
KeepsOptions at (Ok t) = t.after.options ≡ at.options
KeepsOptions at (Err missing) = Unit {0}

-- both
abbrev pub TakesAndKeeps : EngineState → Supply → Result Turned Missing → Type 0
TakesAndKeeps at left r = MayTakeTurn at left r × KeepsOptions at r

loaded_keeps : (at : EngineState) (what : Loaded)
    → ((loaded at what).after.turns ≡ at.turns) × ((loaded at what).after.options ≡ at.options)
loaded_keeps at Unread = (refl, refl)
loaded_keeps at Refused = (refl, refl)
loaded_keeps at (Loads game) = (refl, refl)

either_takes : (b : Bool) (at : EngineState) (left : Supply) (r s : Result Turned Missing)
    → (b ≡ true → TakesAndKeeps at left r) → TakesAndKeeps at left s
    → TakesAndKeeps at left (cond b r s)
either_takes true at left r s p q = p refl
either_takes false at left r s p q = q

loading_next_takes : (at : EngineState) (left : Supply) (loads : List Load) (name : List ℕ)
    → TakesAndKeeps at left (loading_next at left loads name)
loading_next_takes at left [] name = (tt, tt)
loading_next_takes at left (load ∷ loads) name = either_takes (bytes_eq load.name name) at left _ _
    (λ e. let kept = loaded_keeps at load.what in (inl (refl, kept.0), kept.1)) (tt, tt)

loading_takes : (at : EngineState) (left : Supply) (name : Option (List ℕ))
    → TakesAndKeeps at left (loading_by at left name)
loading_takes at left None = (inl (refl, refl), refl)
loading_takes at left (Some name) = loading_next_takes at left left.loads name

moving_next_takes : (at : EngineState) (left : Supply) (turns : List TurnData) (colour : Colour)
    → left.turns ≡ turns → TakesAndKeeps at left (moving_next at left turns colour)
moving_next_takes at left [] colour was = (tt, tt)
moving_next_takes at left (turn ∷ turns) colour was =
    either_takes (is_next at colour turn) at left _ _
    (λ e. (
      inr (record { turn = turn; colour = colour; was = was; next = e; after = refl; reply = refl }),
      refl,
    )) (tt, tt)

moving_by_takes : (at : EngineState) (left : Supply) (colour : Option Colour)
    → TakesAndKeeps at left (moving_by at left colour)
moving_by_takes at left None = (inl (refl, refl), refl)
moving_by_takes at left (Some colour) = either_takes (may_move (board_of at.game)) at left _ _
    (λ e. moving_next_takes at left left.turns colour refl) (inl (refl, refl), refl)

obeyed_takes : (at : EngineState) (left : Supply) (what : Command) (args : List (List ℕ))
    → TakesAndKeeps at left (obeyed at left what args)
obeyed_takes at left (command.Using using.GenMove) args = moving_by_takes at left (lone_colour args)
obeyed_takes at left (command.Using using.LoadSgf) args = loading_takes at left (file_named args)
obeyed_takes at left (command.Quiet quiet) args = (inl (refl, refl), refl)

by_takes : (at : EngineState) (left : Supply) (what : Option Command) (args : List (List ℕ))
    → TakesAndKeeps at left (reaction_by at left what args)
by_takes at left None args = (inl (refl, refl), refl)
by_takes at left (Some what) args = obeyed_takes at left what args

pub reaction_takes : (at : EngineState) (left : Supply) (asked : Request)
    → MayTakeTurn at left (reaction at left asked)
unfolding reaction
reaction_takes at left asked = (by_takes at left (command_named asked.name) asked.args).0

pub reaction_keeps : (at : EngineState) (left : Supply) (asked : Request)
    → KeepsOptions at (reaction at left asked)
unfolding reaction
reaction_keeps at left asked = (by_takes at left (command_named asked.name) asked.args).1
