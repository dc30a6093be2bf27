-- What is held between two lines, and given at the end of a piece and of the input.
use Rattle.std.proofs.Common.{Ok, Err, ◌≡◌, ℕ, Bool, true, false, None, Some, List, [], sym, subst}
use Rattle.std.proofs.Common.{◌∙◌, ap, append-nil}
use Rattle.hex_io.specs.Told.{Told}
use Rattle.hex_io.specs.Grew.{Gave, GaveProperPart}
use Rattle.hex_io.proofs.BothLaws.{Both-then}
use Rattle.htp_line.specs.Lines.{whole, lines}
use Rattle.htp_line.specs.Splitting.{SplitterData, Ends}
use Rattle.hex_engine.specs.EngineState.{EngineState}
use Rattle.htp_session.specs.Talk.{Ending, Going, ending_if}
use Rattle.htp_session.specs.Calls.Holding.{Passes}
use Rattle.htp_session.specs.Calls.Session.{Fed}
use Rattle.htp_session.specs.Sessions.{Conversation, HasAnswered, IsBetweenLines, IsBetweenLinesOrQuit}
use Rattle.htp_session.specs.Sessions.{HasNoMore, CameTo}
use Rattle.htp_session.specs.declared.session.Session.{Session}
use Rattle.hex_devices.specs.Devices.{DevicesState, CountsStop, shelf_and_archive}
use Rattle.hex_devices.specs.declared.stops.Stop.TheVariants as stop
use Rattle.htp_session.proofs.Conversations.{gives_some, gives_all}
use Rattle.htp_session.proofs.Outcomes.{came_unwritten, came_to_end, came_to_quit}

-- nothing is held
pub holding_none : {c : Conversation} {now : DevicesState} {engine : EngineState}
    {held taken : List ℕ} {ls : List (List ℕ)} {ending : Ending} → held ≡ []
    → HasAnswered c now engine [] taken ls ending → HasAnswered c now engine held taken ls ending
holding_none none h = rw none h

-- some of what is held was given
pub between_lines_passing : {c : Conversation} {old new : DevicesState} {engine : EngineState}
    {splitter : SplitterData} {held now seen taken : List ℕ}
    → IsBetweenLines c old engine splitter held seen taken → Passes old.link new.link held [] now
    → shelf_and_archive new ≡ shelf_and_archive old → CountsStop old new None
    → IsBetweenLines c new engine splitter now seen taken
between_lines_passing {held} h pass same counts = record {
  so_far = gives_some pass.0 h.so_far (sym (append-nil held) ∙ pass.1) pass.2 same counts;
  in_hand = h.in_hand;
}

-- all of it was given at the end of a piece
pub fed_given : {old new : DevicesState} (quit : Bool) (c : Conversation) (session : Session)
    (held taken : List ℕ)
    → IsBetweenLinesOrQuit quit c old session.engine session.splitter held taken taken
    → Gave old.link new.link held → shelf_and_archive new ≡ shelf_and_archive old
    → CountsStop old new None → Fed c new session taken (Ok quit)
fed_given false c session held taken h gave same counts
    = record { so_far = gives_all h.so_far gave same counts; in_hand = h.in_hand }
fed_given true c session held taken h gave same counts
    = came_to_quit (gives_all h.1 gave same counts)

-- or a prefix of it
pub fed_unwritten : {c : Conversation} {old new : DevicesState} (quit : Bool) (session : Session)
    (held taken : List ℕ)
    → IsBetweenLinesOrQuit quit c old session.engine session.splitter held taken taken
    → GaveProperPart old.link new.link held → shelf_and_archive new ≡ shelf_and_archive old
    → CountsStop old new (Some stop.WriteFault) → CameTo c new (Err stop.WriteFault)
fed_unwritten false session held taken h part same counts
    = came_unwritten h.so_far part same counts
fed_unwritten true session held taken h part same counts = came_unwritten h.1 part same counts

-- if the input came to its end, it has after more was given
still_no_more : (c : Conversation) (old new : DevicesState) (bytes : List ℕ) → HasNoMore c old
    → Gave old.link new.link bytes → HasNoMore c new
still_no_more c old new bytes none gave =
    Both-then c.began.link old.link new.link _ _ _
    (λ x y z p q. ap (λ (t : Told). t.to_come) q ∙ p) none gave

-- the last line was answered and the answer given
pub finished : {c : Conversation} {mid new : DevicesState} {engine : EngineState}
    {now seen : List ℕ} (old : DevicesState) (held bytes : List ℕ) (quit : Bool) → HasNoMore c old
    → Passes old.link mid.link held bytes now
    → HasAnswered c mid engine now seen (lines seen) (ending_if quit)
    → Gave mid.link new.link now → shelf_and_archive new ≡ shelf_and_archive mid
    → CountsStop mid new None → CameTo c new (Ok tt)
finished {c} {mid} {new} {now} old held bytes quit none pass h gave same counts =
    came_to_end quit (gives_all h gave same counts)
    (still_no_more c mid new now (still_no_more c old mid pass.0 none pass.2) gave)

-- there is no last line
pub finished_at_once : {c : Conversation} {now : DevicesState} {engine : EngineState}
    {splitter : SplitterData} {seen : List ℕ} (new : SplitterData)
    → IsBetweenLines c now engine splitter [] seen seen
    → HasNoMore c now → Ends new.ended new.line (whole seen) (lines seen) → new.ended ≡ false
    → CameTo c now (Ok tt)
finished_at_once {c} {now} {engine} {seen} new h none ends e =
    let same : Ends false new.line (whole seen) (lines seen)
    = subst (λ b. Ends b new.line (whole seen) (lines seen)) e ends in
    came_to_end false (subst (λ l. HasAnswered c now engine [] seen l Going) (sym same) h.so_far) none
