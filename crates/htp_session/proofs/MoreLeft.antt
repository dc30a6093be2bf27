-- That an answered request does not depend on what is left after it.
use Rattle.std.proofs.Common.{◌≡◌, ℕ, Bool, true, false, cond, List, [], ◌∷◌, ◌++◌, Option, Some}
use Rattle.std.proofs.Common.{None, Result, Ok, Err, refl}
use Rattle.std.specs.Str.{bytes_eq}
use Rattle.htp_line.specs.declared.request.Request.{Request}
use Rattle.hex_cells.specs.declared.colours.Colour.{Colour}
use Rattle.hex_game.specs.Games.{board_of}
use Rattle.hex_plan.specs.Turns.{TurnData}
use Rattle.hex_plan.specs.Openings.{may_move}
use Rattle.hex_engine.specs.Commands.{command_named}
use Rattle.hex_engine.specs.EngineState.{EngineState}
use Rattle.hex_engine.specs.Supply.{Supply, Load, and_then}
use Rattle.hex_engine.specs.Replies.{Turned, Missing}
use Rattle.hex_engine.specs.LoadReplies.{file_named, loading_next, loading_by}
use Rattle.hex_engine.specs.MoveReplies.{is_next, moving_next, moving_by, lone_colour}
use Rattle.hex_engine.specs.Requests.{obeyed, reaction_by, reaction}
use Rattle.hex_engine.specs.declared.commands.Command.{Command}
use Rattle.hex_engine.specs.declared.commands.Command.TheVariants as command
use Rattle.hex_engine.specs.declared.commands.Using.TheVariants as using

-- the same result, with more left
abbrev pub leaving_more : Supply → Result Turned Missing → Result Turned Missing
leaving_more more (Ok t) = Ok (record t { left = and_then t.left more })
leaving_more more (Err missing) = Err missing

-- nothing is missing
abbrev pub HasAll : Result Turned Missing → Type 0
HasAll (Ok t) = Unit {0}
HasAll (Err missing) = ⊥

either_more : (b : Bool) (more : Supply) (r s later_r later_s : Result Turned Missing)
    → (HasAll r → later_r ≡ leaving_more more r) → (HasAll s → later_s ≡ leaving_more more s)
    → HasAll (cond b r s) → cond b later_r later_s ≡ leaving_more more (cond b r s)
either_more true more r s later_r later_s p q all = p all
either_more false more r s later_r later_s p q all = q all

loading_next_more : (at : EngineState) (left more : Supply) (loads : List Load) (name : List ℕ)
    → HasAll (loading_next at left loads name)
    → loading_next at (and_then left more) (loads ++ more.loads) name ≡ leaving_more more
    (loading_next at left loads name)
loading_next_more at left more [] name all = absurd all
loading_next_more at left more (load ∷ loads) name all
    = either_more (bytes_eq load.name name) more _ _ _ _ (λ _. refl) (λ none. absurd none) all

loading_more : (at : EngineState) (left more : Supply) (name : Option (List ℕ))
    → HasAll (loading_by at left name) → loading_by at (and_then left more) name ≡ leaving_more more
    (loading_by at left name)
loading_more at left more None all = refl
loading_more at left more (Some name) all = loading_next_more at left more left.loads name all

moving_next_more : (at : EngineState) (left more : Supply) (turns : List TurnData) (colour : Colour)
    → HasAll (moving_next at left turns colour)
    → moving_next at (and_then left more) (turns ++ more.turns) colour ≡ leaving_more more
    (moving_next at left turns colour)
moving_next_more at left more [] colour all = absurd all
moving_next_more at left more (turn ∷ turns) colour all
    = either_more (is_next at colour turn) more _ _ _ _ (λ _. refl) (λ none. absurd none) all

moving_by_more : (at : EngineState) (left more : Supply) (colour : Option Colour)
    → HasAll (moving_by at left colour)
    → moving_by at (and_then left more) colour ≡ leaving_more more (moving_by at left colour)
moving_by_more at left more None all = refl
moving_by_more at left more (Some colour) all
    = either_more (may_move (board_of at.game)) more _ _ _ _
    (moving_next_more at left more left.turns colour) (λ _. refl) all

obeyed_more : (at : EngineState) (left more : Supply) (what : Command) (args : List (List ℕ))
    → HasAll (obeyed at left what args)
    → obeyed at (and_then left more) what args ≡ leaving_more more (obeyed at left what args)
obeyed_more at left more (command.Using using.GenMove) args all
    = moving_by_more at left more (lone_colour args) all
obeyed_more at left more (command.Using using.LoadSgf) args all = loading_more at left more (file_named args) all
obeyed_more at left more (command.Quiet quiet) args all = refl

by_more : (at : EngineState) (left more : Supply) (what : Option Command) (args : List (List ℕ))
    → HasAll (reaction_by at left what args)
    → reaction_by at (and_then left more) what args ≡ leaving_more more
    (reaction_by at left what args)
by_more at left more None args all = refl
by_more at left more (Some what) args all = obeyed_more at left more what args all

-- an answered request is answered the same, and leaves the same and the more
pub reaction_more : (at : EngineState) (left more : Supply) (asked : Request)
    → HasAll (reaction at left asked) → reaction at (and_then left more) asked ≡ leaving_more more
    (reaction at left asked)
unfolding reaction
reaction_more at left more asked all
    = by_more at left more (command_named asked.name) asked.args all
