-- What the calls of a session do, whatever conversation it is of: each keeps its invariant, or ends
-- the conversation. No clause of a public call cites this.
use Rattle.std.specs.Prelude.{◌≡◌, ℕ, Bool, true, false, List, [], ◌++◌, take, Result, Ok, Err}
use Rattle.htp_session.specs.Sessions.{Conversation, IsBetweenLines, IsBetweenLinesOrQuit}
use Rattle.htp_session.specs.Sessions.{HasNoMore, CameTo}
use Rattle.hex_devices.specs.Devices.{DevicesState, Outcome}
use Rattle.hex_devices.specs.Errors.{stop_of_output}
use Rattle.hex_devices.specs.declared.errors.OutputError.{OutputError}
use Rattle.htp_session.specs.declared.session.Moved.{Moved}
use Rattle.htp_session.specs.declared.session.Session.{Session}

-- up to one line more of what was taken was answered, or the conversation ended
abbrev pub Moves : Conversation → DevicesState → Session → List ℕ → List ℕ → List ℕ
    → Result Moved OutputError → Type 0
Moves c new after seen taken piece (Ok m) =
    IsBetweenLinesOrQuit m.quit c new after.engine after.splitter after.out.items
    (seen ++ take m.used piece) taken
Moves c new after seen taken piece (Err error) = CameTo c new (Err (stop_of_output error))

-- the same, if the piece is what was taken after this text
abbrev pub AdvancesBy : DevicesState → DevicesState → Session → Session → List ℕ
    → Result Moved OutputError → Type 0
AdvancesBy old new before after piece result = (c : Conversation) → (seen taken : List ℕ)
    → taken ≡ seen ++ piece
    → IsBetweenLines c old before.engine before.splitter before.out.items seen taken
    → Moves c new after seen taken piece result

-- all whole lines of what was taken were answered, or the conversation ended
abbrev pub Took : Conversation → DevicesState → Session → List ℕ → Result Bool OutputError → Type 0
Took c new after taken (Ok quit) =
    IsBetweenLinesOrQuit quit c new after.engine after.splitter after.out.items taken taken
Took c new after taken (Err error) = CameTo c new (Err (stop_of_output error))

-- the same, if the piece is what was taken after this text, and nothing was held
abbrev pub TakesPiece : DevicesState → DevicesState → Session → Session → List ℕ
    → Result Bool OutputError → Type 0
TakesPiece old new before after piece result = (c : Conversation) → (seen : List ℕ)
    → IsBetweenLines c old before.engine before.splitter [] seen (seen ++ piece)
    → Took c new after (seen ++ piece) result

-- all whole lines of what was taken were answered, and the answers given, or the conversation ended
abbrev pub Fed : Conversation → DevicesState → Session → List ℕ → Result Bool OutputError → Type 0
Fed c new after taken (Ok false) = IsBetweenLines c new after.engine after.splitter [] taken taken
Fed c new after taken (Ok true) = CameTo c new (Ok tt)
Fed c new after taken (Err error) = CameTo c new (Err (stop_of_output error))

-- the same, if the piece is what was taken after this text, and nothing was held
abbrev pub Feeds : DevicesState → DevicesState → Session → Session → List ℕ
    → Result Bool OutputError → Type 0
Feeds old new before after piece result = (c : Conversation) → (seen : List ℕ)
    → IsBetweenLines c old before.engine before.splitter [] seen (seen ++ piece)
    → Fed c new after (seen ++ piece) result

-- how a conversation ends whose last call ended so
abbrev pub outcome_of_output : Result (Unit {0}) OutputError → Outcome
outcome_of_output (Ok done) = Ok done
outcome_of_output (Err error) = Err (stop_of_output error)

-- at the end of the input the conversation ended
abbrev pub Finishes : DevicesState → DevicesState → Session → Result (Unit {0}) OutputError
    → Type 0
Finishes old new before result = (c : Conversation) → (seen : List ℕ)
    → IsBetweenLines c old before.engine before.splitter [] seen seen → HasNoMore c old
    → CameTo c new (outcome_of_output result)
