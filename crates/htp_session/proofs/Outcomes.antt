-- How a conversation that kept its invariant comes to its end.
use Rattle.std.proofs.Common.{Ok, Err, ◌≡◌, ℕ, Bool, true, None, Some, List, [], ◌++◌, length}
use Rattle.std.proofs.Common.{take, refl, ap, sym, subst, ◌∙◌, inl, inr, append-nil, append_assoc}
use Rattle.std.proofs.Common.{arith}
use Rattle.hex_io.specs.Told.{Told, Both, TakesBytes, Same}
use Rattle.hex_io.specs.Grew.{Gave, GaveProperPart}
use Rattle.hex_io.proofs.BothLaws.{Both-then, Both-weaker, Both-refl, Both-last}
use Rattle.htp_line.specs.Lines.{lines}
use Rattle.htp_line.specs.Splitting.{SplitterData}
use Rattle.hex_engine.specs.EngineState.{EngineState}
use Rattle.hex_engine.specs.Supply.{Supply, nothing_left}
use Rattle.htp_session.specs.Talk.{TalkState, Ending, Going, AfterQuit, ending_if, talk}
use Rattle.htp_session.specs.Usage.{UsesUp}
use Rattle.htp_session.specs.Sessions.{Conversation, TookAndGave, HasAnswered, IsBetweenLines}
use Rattle.htp_session.specs.Sessions.{HasNoMore, CameTo, first_state_of, all_used}
use Rattle.htp_session.specs.Endings.{IsInVain, Ended}
use Rattle.hex_devices.specs.Devices.{DevicesState, Outcome, CountsStop, CountsFaults, stop_of}
use Rattle.hex_devices.specs.Devices.{shelf_and_archive}
use Rattle.hex_devices.specs.declared.stops.Stop.TheVariants as stop
use Rattle.hex_devices.proofs.CountLaws.{counts_nothing, counts_then, counts_memory, counts_same}
use Rattle.htp_session.proofs.TalkLaws.{talk_quit}
use Rattle.htp_session.proofs.UsageLaws.{uses_nothing}
use Rattle.htp_session.proofs.Keeping.{taking_more, talk_text}
use Rattle.htp_session.proofs.Ends.{ended_finished, ended_unread, ended_overlong, ended_unwritten}
use Rattle.htp_session.proofs.Ends.{ended_unbegun}
use Rattle.htp_session.proofs.Conversations.{uses_same, told_giving}

-- this was used up, and so it ended
came_by : (c : Conversation) (now : DevicesState) (outcome : Outcome) (used : Supply)
    (in_vain : List Bool)
    → UsesUp c.options (shelf_and_archive c.began) (shelf_and_archive now) used in_vain
    → IsInVain outcome in_vain → Both c.began.link now.link (Ended outcome (first_state_of c) used c.limit)
    → CountsFaults c.began now outcome → CameTo c now outcome
came_by c now outcome used in_vain uses vain ends counts = record {
  converses = (
    used,
    record {
      in_vain = in_vain;
      fetched = uses.loading;
      vain = vain;
      took = uses.moving.took;
      outcome = ends;
    },
    uses.moving.good,
  );
  counts = counts;
}

-- the same in a call that gave these bytes more and used nothing up
pub came_giving : {c : Conversation} {old new : DevicesState} {engine : EngineState}
    {held taken : List ℕ} {ls : List (List ℕ)} {ending : Ending} (outcome : Outcome)
    (bytes : List ℕ) (in_vain : List Bool) (h : HasAnswered c old engine held taken ls ending)
    → UsesUp c.options (shelf_and_archive c.began) (shelf_and_archive new) h.used in_vain
    → IsInVain outcome in_vain → Gave old.link new.link bytes
    → ((o n : Told) → TookAndGave (first_state_of c) h.used o n taken (h.given ++ bytes) → Ended outcome (first_state_of c) h.used c.limit o n)
    → CountsStop old new (stop_of outcome) → CameTo c new outcome
came_giving {c} {old} {new} {taken} outcome bytes in_vain h uses vain gave ends counts =
    came_by c new outcome h.used in_vain uses vain
    (Both-weaker c.began.link new.link _ _ ends
    (told_giving c old new h.used taken h.given bytes h.told gave))
    (counts_then c.began old new _ h.counts counts)

-- a write failed before all that was held was given
pub came_unwritten : {c : Conversation} {old new : DevicesState} {engine : EngineState}
    {held taken : List ℕ} {ls : List (List ℕ)} {ending : Ending}
    → HasAnswered c old engine held taken ls ending → GaveProperPart old.link new.link held
    → shelf_and_archive new ≡ shelf_and_archive old
    → CountsStop old new (Some stop.WriteFault) → CameTo c new (Err stop.WriteFault)
came_unwritten {c} {old} {new} {taken} {ls} h part same counts =
    let start = first_state_of c in
    let more = talk_text start h.used ls h.first.0 in
    let text : (talk start h.used (lines taken)).text ≡ (h.given ++ part.0) ++ (part.1 ++ more.0) =
    ap (λ l. (talk start h.used l).text) h.first.1 ∙ more.1
    ∙ ap (λ (s : TalkState). s.text ++ more.0) h.says
    ∙ ap (λ l. (h.given ++ l) ++ more.0) part.2
    ∙ ap (λ l. l ++ more.0) (sym (append_assoc h.given part.0 part.1))
    ∙ append_assoc (h.given ++ part.0) part.1 more.0 in
    came_giving (Err stop.WriteFault) part.0 [] h (uses_same c old new h.used same h.uses) refl part.4
    (λ o n k. ended_unwritten start h.used c.limit o n taken _ _ h.in_limit k text) counts

-- all lines were answered and all answers given
pub came_to_end : {c : Conversation} {now : DevicesState} {engine : EngineState} {taken : List ℕ}
    (quit : Bool) → HasAnswered c now engine [] taken (lines taken) (ending_if quit)
    → HasNoMore c now → CameTo c now (Ok tt)
came_to_end {c} {now} {engine} {taken} quit h none =
    came_by c now (Ok tt) h.used [] h.uses refl
    (Both-last c.began.link c.began.link now.link _ (λ o n. n.to_come ≡ []) _
    (λ x y z k e. ended_finished (first_state_of c) h.used c.limit x z taken h.given engine quit h.in_limit k
    (h.says ∙ ap (λ l. all_used l engine (ending_if quit)) (append-nil h.given)) (inl e)) h.told none
    (Both-refl c.began.link _ (λ x. tt))) h.counts

-- quit was answered, and all answers given
pub came_to_quit : {c : Conversation} {now : DevicesState} {engine : EngineState}
    {taken : List ℕ} {ls : List (List ℕ)} → HasAnswered c now engine [] taken ls AfterQuit
    → CameTo c now (Ok tt)
came_to_quit {c} {now} {engine} {taken} {ls} h =
    let says : talk (first_state_of c) h.used (lines taken) ≡ all_used h.given engine AfterQuit =
    ap (talk (first_state_of c) h.used) h.first.1
    ∙ talk_quit (first_state_of c) h.used ls h.first.0 (ap (λ (s : TalkState). s.ending) h.says) ∙ h.says
    ∙ ap (λ l. all_used l engine AfterQuit) (append-nil h.given) in
    came_by c now (Ok tt) h.used [] h.uses refl
    (Both-weaker c.began.link now.link _ _
    (λ o n k. ended_finished (first_state_of c) h.used c.limit o n taken h.given engine true h.in_limit k
    says (inr refl)) h.told) h.counts

-- a read failed
pub came_unread : {c : Conversation} {old new : DevicesState} {engine : EngineState}
    {splitter : SplitterData} {seen : List ℕ} → IsBetweenLines c old engine splitter [] seen seen
    → shelf_and_archive new ≡ shelf_and_archive old → Same old.link new.link
    → CountsStop old new (Some stop.ReadFault) → CameTo c new (Err stop.ReadFault)
came_unread {c} {old} {new} {engine} {seen} h same unread counts =
    let k = h.so_far in
    came_by c new (Err stop.ReadFault) k.used [] (uses_same c old new k.used same k.uses) refl
    (Both-then c.began.link old.link new.link _ _ _
    (λ x y z p q. ended_unread (first_state_of c) k.used c.limit x z seen k.given engine k.in_limit
    (subst (λ n. TookAndGave (first_state_of c) k.used x n seen k.given) (sym q) p)
    (k.says ∙ ap (λ l. all_used l engine Going) (append-nil k.given))) k.told unread)
    (counts_then c.began old new _ k.counts counts)

counts_too_long : (a b : DevicesState) → CountsStop a b None → CountsStop a b (Some stop.TooLong)
counts_too_long a b p = counts_then a b b (Some stop.TooLong) p
    (counts_same b (Some stop.TooLong) (λ e. cc) (λ e. cc) (λ e. cc))

-- one byte more than the limit was taken
pub came_overlong : {c : Conversation} {old new : DevicesState} {engine : EngineState}
    {splitter : SplitterData} {seen : List ℕ} (buf : List ℕ) (n : ℕ)
    → IsBetweenLines c old engine splitter [] seen seen
    → shelf_and_archive new ≡ shelf_and_archive old
    → Both old.link new.link (λ o t. TakesBytes o t n buf) → CountsStop old new None
    → length seen ≡ c.limit → length (take n buf) ≡ 1 → CameTo c new (Err stop.TooLong)
came_overlong {c} {old} {new} {engine} {seen} buf n h same reads counts full one =
    let k = h.so_far in
    let says = k.says ∙ ap (λ l. all_used l engine Going) (append-nil k.given) in
    came_by c new (Err stop.TooLong) k.used [] (uses_same c old new k.used same k.uses) refl
    (Both-then c.began.link old.link new.link _ _ _
    (λ x y z p t. ended_overlong (first_state_of c) k.used c.limit x z seen (take n buf) k.given engine full one
    (taking_more (first_state_of c) k.used x y z seen k.given buf n p
    (ap (λ (s : TalkState). s.text) (sym says)) (ap (λ (s : TalkState). s.ending) k.says) t) says)
    k.told reads)
    (counts_then c.began old new _ k.counts (counts_too_long old new counts))

-- memory ran out before the first read
pub came_unbegun : (c : Conversation) → CameTo c c.began (Err stop.Memory)
came_unbegun c =
    came_by c c.began (Err stop.Memory) nothing_left []
    (uses_nothing c.options (shelf_and_archive c.began)) (omega arith)
    (Both-refl c.began.link _ (ended_unbegun (first_state_of c) c.limit))
    (counts_memory c.began c.began (counts_nothing c.began))
