-- What answers a request, and what stands then.
use Rattle.std.specs.Prelude.{◌≡◌, ℕ, ◌≤◌, length, Bool, true, false, List, Option, Some, None}
use Rattle.std.specs.Prelude.{Result, Ok}
use Rattle.htp_line.specs.declared.request.Request.{Request}
use Rattle.hex_game.specs.Games.{GameData}
use Rattle.hex_engine.specs.Commands.{command_named}
use Rattle.hex_engine.specs.EngineState.{EngineState}
use Rattle.hex_engine.specs.LoadReplies.{loading}
use Rattle.hex_engine.specs.MoveReplies.{moving}
use Rattle.hex_engine.specs.BoardReplies.{QuietReaction, in_conversation}
use Rattle.hex_engine.specs.QuietReplies.{quiet_reaction}
use Rattle.hex_engine.specs.Replies.{Reply, Done, Quit, Failed, Reaction, Turned, Missing}
use Rattle.hex_engine.specs.Replies.{unchanged, unused}
use Rattle.hex_engine.specs.Supply.{Supply, and_then, nothing_left}
use Rattle.hex_engine.specs.declared.answers.Answer.{Answer}
use Rattle.hex_engine.specs.declared.answers.Answer.TheVariants as answer
use Rattle.hex_engine.specs.declared.answers.Asked.{Asked}
use Rattle.hex_engine.specs.declared.answers.Asked.TheVariants as asked
use Rattle.hex_engine.specs.declared.answers.Fail.TheVariants.{UnknownCommand, ReadFault}
use Rattle.hex_engine.specs.declared.commands.Command.{Command}
use Rattle.hex_engine.specs.declared.commands.Command.TheVariants as command
use Rattle.hex_engine.specs.declared.commands.Using.TheVariants as using

-- what a command with these arguments does to a conversation
abbrev pub obeyed : EngineState → Supply → Command → List (List ℕ) → Result Turned Missing
obeyed engine left (command.Quiet quiet) args =
    unused left (in_conversation engine (quiet_reaction engine quiet args))
obeyed engine left (command.Using using.GenMove) args = moving engine left args
obeyed engine left (command.Using using.LoadSgf) args = loading engine left args

-- what answers a request for this command, if it is built
abbrev pub reaction_by : EngineState → Supply → Option Command → List (List ℕ)
    → Result Turned Missing
reaction_by engine left None args = unused left (unchanged engine (Failed UnknownCommand))
reaction_by engine left (Some command) args = obeyed engine left command args

-- what answers a request, or what it wants that is not there
unfoldable pub reaction : EngineState → Supply → Request → Result Turned Missing
reaction engine left request =
    reaction_by engine left (command_named request.name) request.args

-- whether a command uses nothing up; a name that is no command uses nothing up either
abbrev pub is_quiet_command : Option Command → Bool
is_quiet_command None = true
is_quiet_command (Some (command.Quiet _)) = true
is_quiet_command (Some (command.Using _)) = false

-- whether a request uses nothing up
abbrev pub is_quiet : Request → Bool
is_quiet request = is_quiet_command (command_named request.name)

-- an answer, as a reply
abbrev pub replied : Answer → Reply
replied (answer.Done text) = Done text
replied answer.Quit = Quit
replied (answer.Fail fail) = Failed fail

-- this answer, and what stands after it, are the reaction
abbrev pub Reacts : Reaction → Answer → EngineState → Type 0
Reacts reaction answer after = record { reply = replied answer; after = after } ≡ reaction

-- the answer tells no fault of the shelf
abbrev pub TellsNoFault : Answer → Type 0
TellsNoFault (answer.Fail ReadFault) = ⊥
TellsNoFault _ = Unit {0}

-- the answer is this reply, and tells no fault of the shelf
abbrev pub Tells : Reply → Answer → Type 0
Tells reply answer = (replied answer ≡ reply) × TellsNoFault answer

-- this answer, and the game after it, are the reaction of a command that uses nothing up
abbrev pub ReactsQuietly : QuietReaction → Answer → GameData → Type 0
ReactsQuietly quiet answer after = Tells quiet.reply answer × (after ≡ quiet.game)

-- This answer, and what stands after it, are the reaction if this is used up, whatever is left
-- then.
abbrev pub ReactsWith : (Supply → Result Turned Missing) → Supply → Answer → EngineState → Type 0
ReactsWith react used answer after = (later : Supply)
    → react (and_then used later)
    ≡ Ok (record { reply = replied answer; after = after; left = later })

-- A request that uses nothing up came to its answer: with what stands after it, that is the
-- reaction, and it tells no fault of the shelf. Every other request came to the command that it
-- asks for, and all stands as before.
abbrev pub ComesTo : EngineState → Request → EngineState → Asked → Type 0
ComesTo engine request after (asked.Quiet answer) =
    (is_quiet request ≡ true) × TellsNoFault answer
    × ReactsWith (λ supply. reaction engine supply request) nothing_left answer after
ComesTo engine request after (asked.Using what) =
    (after ≡ engine) × (command_named request.name ≡ Some (command.Using what))

-- the answer has no text longer than a vertex, or it is a failure
abbrev pub IsBrief : Answer → Type 0
IsBrief (answer.Done text) = length text ≤ 3
IsBrief answer.Quit = Unit {0}
IsBrief (answer.Fail fail) = Unit {0}
