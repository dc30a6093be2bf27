-- What an answer to a line does. No clause of a public call cites this.
use Rattle.std.specs.Prelude.{◌≡◌, ℕ, Bool, List, ◌++◌, Result, Ok, Err}
use Rattle.std.specs.declared.option.Option.{Option}
use Rattle.hex_io.specs.Grew.{Gave, GaveProperPart}
use Rattle.htp_line.specs.declared.request.Request.{Request}
use Rattle.htp_line.specs.declared.request.Parsed.TheVariants as parsed
use Rattle.hex_engine.specs.EngineState.{EngineState}
use Rattle.hex_engine.specs.Supply.{Supply}
use Rattle.htp_session.specs.Talk.{TalkState, after_line, after_reading, ending_if}
use Rattle.htp_session.specs.Usage.{AnswersWith, Wants, UsesUpNothing}
use Rattle.htp_session.specs.Calls.Asking.{after_question}
use Rattle.htp_session.specs.Calls.Holding.{Passes}
use Rattle.htp_session.specs.declared.questions.Question.{Question}
use Rattle.htp_session.specs.declared.answering.Said.{Said}
use Rattle.htp_session.specs.declared.answering.Said.TheVariants.{Whole, Open}
use Rattle.hex_devices.specs.Devices.{DevicesState, shelf_and_archive}
use Rattle.hex_devices.specs.declared.errors.OutputError.{OutputError}
use Rattle.hex_devices.specs.declared.errors.OutputError.TheVariants.{Memory, Archive, Write}

-- this, whatever is left, was said at once, and the engine stands so then; or nothing was said, and
-- what is said is what is said to that question
abbrev pub Speaks : EngineState → EngineState → (Supply → TalkState) → List ℕ → List ℕ → Said
    → Type 0
Speaks before after says out out_now (Whole quit) =
    (bytes : List ℕ) × (out_now ≡ out ++ bytes) × ((later : Supply)
    → says later ≡ record { text = bytes; at = after; left = later; ending = ending_if quit })
Speaks before after says out out_now (Open question) =
    (out_now ≡ out) × (after ≡ before) × ((later : Supply)
    → says later ≡ after_question before later question)

-- the same of a line, as far as it is kept
abbrev pub SpeaksTo : EngineState → EngineState → Option (List ℕ) → List ℕ → List ℕ → Said
    → Type 0
SpeaksTo before after line = Speaks before after (λ left. after_line before left line)

-- the same of a request
abbrev pub SpeaksToRequest : EngineState → EngineState → Request → List ℕ → List ℕ → Said
    → Type 0
SpeaksToRequest before after request =
    Speaks before after (λ left. after_reading before left (parsed.Request request))

-- What this says was written after what was held, and a prefix of both given, after which the
-- engine stands so; or a write failed before anything was asked; or what was held was given,
-- nothing was used up, and memory or a turn was wanted.
abbrev pub Writes : DevicesState → DevicesState → EngineState → EngineState → (Supply → TalkState)
    → List ℕ → List ℕ → Result Bool OutputError → Type 0
Writes old new before after says held held_now (Ok quit) =
    (bytes : List ℕ) × Passes old.link new.link held bytes held_now
    × AnswersWith before.options (shelf_and_archive old) (shelf_and_archive new) says bytes after
    quit
Writes old new before after says held held_now (Err Write) =
    GaveProperPart old.link new.link held × (shelf_and_archive new ≡ shelf_and_archive old)
Writes old new before after says held held_now (Err Memory) = Gave old.link new.link held
    × UsesUpNothing before.options (shelf_and_archive old) (shelf_and_archive new)
Writes old new before after says held held_now (Err Archive) = Gave old.link new.link held
    × Wants before.options (shelf_and_archive old) (shelf_and_archive new) before says

-- the same of a line, as far as it is kept
abbrev pub WritesAnswer : DevicesState → DevicesState → EngineState → EngineState
    → Option (List ℕ) → List ℕ → List ℕ → Result Bool OutputError → Type 0
WritesAnswer old new before after line =
    Writes old new before after (λ left. after_line before left line)

-- the same of a question
abbrev pub WritesReply : DevicesState → DevicesState → EngineState → EngineState
    → Question → List ℕ → List ℕ → Result Bool OutputError → Type 0
WritesReply old new before after question =
    Writes old new before after (λ left. after_question before left question)
