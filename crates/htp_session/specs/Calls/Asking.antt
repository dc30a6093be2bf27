-- What it does to ask the engine over the devices. No clause of a public call cites this.
use Rattle.std.specs.Prelude.{◌≡◌, ℕ, Bool, List, [], ◌++◌, Result, Ok, Err}
use Rattle.hex_engine.specs.EngineState.{EngineState}
use Rattle.hex_engine.specs.Supply.{Supply, nothing_left}
use Rattle.hex_engine.specs.Uses.{Answered}
use Rattle.hex_engine.specs.Replies.{NoTurn, Turned, Missing}
use Rattle.hex_engine.specs.Requests.{obeyed}
use Rattle.hex_engine.specs.declared.answers.Answer.{Answer}
use Rattle.hex_engine.specs.declared.answers.EngineError.{EngineError}
use Rattle.hex_engine.specs.declared.answers.EngineError.TheVariants.{Memory, Archive}
use Rattle.hex_engine.specs.declared.commands.Command.TheVariants as command
use Rattle.htp_session.specs.Talk.{TalkState, after_reaction}
use Rattle.htp_session.specs.Usage.{AnswersWith, Wants, UsesUp, UsesUpNothing}
use Rattle.htp_session.specs.declared.questions.Question.{Question}
use Rattle.hex_devices.specs.Devices.{DevicesState, shelf_and_archive}
use Rattle.hex_devices.specs.Errors.{stop_of_output}
use Rattle.hex_devices.specs.declared.errors.OutputError.{OutputError}
use Rattle.hex_devices.specs.declared.errors.OutputError.TheVariants as output
use Rattle.hex_devices.specs.declared.stops.Stop.{Stop}

-- why nothing is given for a question to which the engine gave no answer
abbrev pub output_of_engine : EngineError → OutputError
output_of_engine Memory = output.Memory
output_of_engine Archive = output.Archive

-- the stop of a session that ends so
abbrev pub stop_of_engine : EngineError → Stop
stop_of_engine error = stop_of_output (output_of_engine error)

-- what the engine does with a question
abbrev pub reaction_to : EngineState → Supply → Question → Result Turned Missing
reaction_to at left question =
    obeyed at left (command.Using question.command) question.request.args

-- what is said to a question
abbrev pub after_question : EngineState → Supply → Question → TalkState
after_question at left question =
    after_reaction at left question.request.id (reaction_to at left question)

-- the engine answered a question, or wanted memory or a turn, and then it stands as before
abbrev pub Asks : DevicesState → DevicesState → EngineState → EngineState → Question
    → Result Answer EngineError → Type 0
Asks old new before after question (Ok answer) = Answered before old.shelf new.shelf old.turns
    new.turns question.command question.request.args answer after
Asks old new before after question (Err Memory) =
    UsesUpNothing before.options (shelf_and_archive old) (shelf_and_archive new)
Asks old new before after question (Err Archive) =
    UsesUp before.options (shelf_and_archive old) (shelf_and_archive new) nothing_left []
    × (reaction_to before nothing_left question ≡ Err NoTurn)

-- a question was answered at the end of these bytes; or nothing was used up, and memory or a turn
-- was wanted
abbrev pub Replies : DevicesState → DevicesState → EngineState → EngineState → Question
    → List ℕ → List ℕ → Result Bool EngineError → Type 0
Replies old new before after question out out_now (Ok quit) =
    (bytes : List ℕ) × (out_now ≡ out ++ bytes)
    × AnswersWith before.options (shelf_and_archive old) (shelf_and_archive new)
    (λ left. after_question before left question) bytes after quit
Replies old new before after question out out_now (Err Memory) =
    UsesUpNothing before.options (shelf_and_archive old) (shelf_and_archive new)
Replies old new before after question out out_now (Err Archive) =
    Wants before.options (shelf_and_archive old) (shelf_and_archive new) before
    (λ left. after_question before left question)
