-- The next line of what a conversation took: where it stands, and what its answer does.
use Rattle.std.proofs.Common.{Ok, Err, ◌≡◌, ℕ, Bool, true, false, None, Some, List, [], ◌∷◌, ◌++◌}
use Rattle.std.proofs.Common.{ap, sym, refl, subst, ◌∙◌, append-nil, append_assoc, Option}
use Rattle.hex_io.proofs.BothLaws.{Both-weaker}
use Rattle.htp_line.specs.Lines.{whole, lines}
use Rattle.htp_line.specs.Splitting.{SplitterData, Ends, Advances, StandsAfter, kept_line}
use Rattle.hex_engine.specs.EngineState.{EngineState}
use Rattle.hex_engine.specs.Replies.{NoTurn}
use Rattle.hex_engine.specs.Supply.{Supply, nothing_left, and_then}
use Rattle.htp_session.specs.Talk.{TalkState, Going, Short, ending_if, goes_on, after_line, talk}
use Rattle.htp_session.specs.Usage.{UsesUp}
use Rattle.htp_session.specs.Calls.Answering.{WritesAnswer}
use Rattle.htp_session.specs.Sessions.{Conversation, HasAnswered, IsBetweenLines, IsBetweenLinesOrQuit}
use Rattle.htp_session.specs.Sessions.{CameTo, first_state_of, all_used}
use Rattle.hex_devices.specs.Devices.{DevicesState, CountsStop, shelf_and_archive}
use Rattle.hex_devices.specs.Errors.{stop_of_output}
use Rattle.hex_devices.specs.declared.errors.OutputError.{OutputError}
use Rattle.hex_devices.specs.declared.errors.OutputError.TheVariants as output
use Rattle.hex_devices.specs.declared.stops.Stop.TheVariants as stop
use Rattle.hex_devices.proofs.CountLaws.{counts_then}
use Rattle.htp_session.proofs.TalkLaws.{talk_next, talk_stays}
use Rattle.htp_session.proofs.SupplyLaws.{talk_more_left, answered_if}
use Rattle.htp_session.proofs.UsageLaws.{and_then_nothing, uses_then}
use Rattle.htp_session.proofs.Keeping.{using_more, lines-append}
use Rattle.htp_session.proofs.Ends.{ended_unarchived, ended_unfinished}
use Rattle.htp_session.proofs.Conversations.{options_of, told_giving}
use Rattle.htp_session.proofs.Outcomes.{came_giving, came_unwritten}

-- of what was taken this line is the next, as far as it is kept, after those that were answered;
-- with it they are these
pub record NextLine (taken : List ℕ) (answered : List (List ℕ)) (line : Option (List ℕ))
    (with_it : List (List ℕ)) : Type 0 where
  pub raw : List ℕ
  pub others : List (List ℕ)
  pub split : lines taken ≡ answered ++ raw ∷ others
  pub kept : line ≡ kept_line raw
  pub ends : with_it ≡ answered ++ raw ∷ []

-- a line ended within what was taken
pub next_line : {held : SplitterData} {seen front taken : List ℕ} (ahead : List ℕ)
    → taken ≡ (seen ++ front) ++ ahead → Advances held seen front → held.ended ≡ true
    → NextLine taken (whole seen) held.line (whole (seen ++ front))
next_line {held} {seen} {front} ahead parts adv e =
    let ended : Ends true held.line (whole seen) (whole (seen ++ front))
    = subst (λ b. Ends b held.line (whole seen) (whole (seen ++ front))) e adv.ended in
    let m = lines-append (seen ++ front) ahead in
    record {
      raw = ended.0;
      others = m.0;
      split = ap lines parts ∙ m.1 ∙ ap (λ l. l ++ m.0) ended.1
          ∙ append_assoc (whole seen) (ended.0 ∷ []) m.0;
      kept = ended.2;
      ends = ended.1;
    }

-- a line ended with what was taken
pub last_line : (held : SplitterData) (seen : List ℕ)
    → Ends held.ended held.line (whole seen) (lines seen) → held.ended ≡ true
    → NextLine seen (whole seen) held.line (lines seen)
last_line held seen ends e =
    let ended : Ends true held.line (whole seen) (lines seen)
    = subst (λ b. Ends b held.line (whole seen) (lines seen)) e ends in
    record { raw = ended.0; others = []; split = ended.1; kept = ended.2; ends = ended.1 }

-- what was used up before a line, and for it
uses_after : (c : Conversation) (old new : DevicesState) (engine : EngineState) (used more : Supply)
    (in_vain : List Bool) → engine.options ≡ c.options
    → UsesUp c.options (shelf_and_archive c.began) (shelf_and_archive old) used []
    → UsesUp engine.options (shelf_and_archive old) (shelf_and_archive new) more in_vain
    → UsesUp c.options (shelf_and_archive c.began) (shelf_and_archive new) (and_then used more) in_vain
uses_after c old new engine used more in_vain same p q =
    uses_then c.options (shelf_and_archive c.began) (shelf_and_archive old) (shelf_and_archive new)
    used more in_vain p
    (subst (λ o. UsesUp o (shelf_and_archive old) (shelf_and_archive new) more in_vain) same q)

uses_no_more : (c : Conversation) (old new : DevicesState) (engine : EngineState) (used : Supply)
    (in_vain : List Bool) → engine.options ≡ c.options
    → UsesUp c.options (shelf_and_archive c.began) (shelf_and_archive old) used []
    → UsesUp engine.options (shelf_and_archive old) (shelf_and_archive new) nothing_left in_vain
    → UsesUp c.options (shelf_and_archive c.began) (shelf_and_archive new) used in_vain
uses_no_more c old new engine used in_vain same p q =
    subst (λ l. UsesUp c.options (shelf_and_archive c.began) (shelf_and_archive new) l in_vain)
    (and_then_nothing used) (uses_after c old new engine used nothing_left in_vain same p q)

module _ {c : Conversation} {old new : DevicesState} {engine : EngineState} {held taken : List ℕ}
    {ls with_it : List (List ℕ)} {line : Option (List ℕ)} (after : EngineState) (now : List ℕ)
    (h : HasAnswered c old engine held taken ls Going) (n : NextLine taken ls line with_it) where
  -- the next line was answered
  pub next_answered : (quit : Bool) → WritesAnswer old new engine after line held now (Ok quit)
      → CountsStop old new None → HasAnswered c new after now taken with_it (ending_if quit)
  next_answered quit written counts =
      let start = first_state_of c in
      let w : WritesAnswer old new engine after (kept_line n.raw) held now (Ok quit)
      = subst (λ l. WritesAnswer old new engine after l held now (Ok quit)) n.kept written in
      let pass = w.1 in
      let more = w.2.used in
      let all = and_then h.used more in
      let later : talk start all ls ≡ record { text = h.given ++ held; at = engine; left = more; ending = Going } =
      talk_more_left start h.used more ls
      (answered_if false _ (ap (λ (s : TalkState). s.ending) h.says))
      ∙ ap (λ (s : TalkState). record s { left = and_then s.left more }) h.says in
      let says : after_line engine more (kept_line n.raw) ≡ all_used w.0 after (ending_if quit) =
      subst (λ l. after_line engine l (kept_line n.raw) ≡ all_used w.0 after (ending_if quit))
      (and_then_nothing more) (w.2.is nothing_left) in
      let text : (h.given ++ held) ++ w.0 ≡ (h.given ++ pass.0) ++ now =
      append_assoc h.given held w.0 ∙ ap (λ l. h.given ++ l) pass.1
      ∙ sym (append_assoc h.given pass.0 now) in
      record {
        used = all;
        uses = uses_after c old new engine h.used more [] (options_of h) h.uses w.2.uses;
        given = h.given ++ pass.0;
        says = ap (talk start all) n.ends ∙ talk_next start all ls n.raw _ _ later refl says
            ∙ ap (λ l. all_used l after (ending_if quit)) text;
        first = (
          n.others,
          n.split ∙ sym (append_assoc ls (n.raw ∷ []) n.others)
              ∙ ap (λ l. l ++ n.others) (sym n.ends),
        );
        in_limit = h.in_limit;
        told = told_giving c old new all taken h.given pass.0
            (Both-weaker c.began.link old.link _ _
            (λ x y k. using_more start h.used more x y taken h.given k) h.told) pass.2;
        counts = counts_then c.began old new None h.counts counts;
      }

  -- it was not
  pub next_stopped : (error : OutputError)
      → WritesAnswer old new engine after line held now (Err error)
      → CountsStop old new (Some (stop_of_output error)) → CameTo c new (Err (stop_of_output error))
  next_stopped output.Write w counts = came_unwritten h w.0 w.1 counts
  next_stopped output.Memory w counts =
      came_giving (Err stop.Memory) held w.1.in_vain h
      (uses_no_more c old new engine h.used w.1.in_vain (options_of h) h.uses w.1.uses) w.1.few w.0
      (λ x y k. ended_unfinished (first_state_of c) h.used c.limit x y taken _ ls n.raw n.others engine
      h.in_limit k n.split h.says) counts
  next_stopped output.Archive written counts =
      let start = first_state_of c in
      let w : WritesAnswer old new engine after (kept_line n.raw) held now (Err output.Archive)
      = subst (λ l. WritesAnswer old new engine after l held now (Err output.Archive)) n.kept written in
      let next = talk_next start h.used ls n.raw _ _ h.says refl w.1.is in
      let says : talk start h.used (lines taken) ≡ all_used (h.given ++ held) engine (Short NoTurn) =
      ap (talk start h.used) (n.split ∙ sym (append_assoc ls (n.raw ∷ []) n.others))
      ∙ talk_stays start h.used (ls ++ n.raw ∷ []) n.others
      (ap (λ (s : TalkState). goes_on s.ending) next) ∙ next
      ∙ ap (λ l. all_used l engine (Short NoTurn)) (append-nil (h.given ++ held)) in
      came_giving (Err stop.ArchiveFault) held [] h
      (uses_no_more c old new engine h.used [] (options_of h) h.uses w.1.uses) refl w.0
      (λ x y k. ended_unarchived start h.used c.limit x y taken _ engine h.in_limit k says) counts

-- where no line ended nothing is answered
pub between_lines_open : {c : Conversation} {now : DevicesState} {engine : EngineState}
    {splitter new : SplitterData} {held seen front taken : List ℕ}
    → IsBetweenLines c now engine splitter held seen taken → Advances new seen front → new.ended ≡ false
    → IsBetweenLines c now engine new held (seen ++ front) taken
between_lines_open {c} {now} {engine} {new} {held} {seen} {front} {taken} h adv e =
    let same : Ends false new.line (whole seen) (whole (seen ++ front))
    = subst (λ b. Ends b new.line (whole seen) (whole (seen ++ front))) e adv.ended in
    record {
      so_far = subst (λ l. HasAnswered c now engine held taken l Going) (sym same) h.so_far;
      in_hand = adv.stands;
    }

-- where one was answered the talk goes on, or it was a quit
pub between_lines_or_quit : {c : Conversation} {now : DevicesState} {engine : EngineState}
    {held taken : List ℕ} (quit : Bool) (splitter : SplitterData) (seen : List ℕ)
    → HasAnswered c now engine held taken (whole seen) (ending_if quit) → StandsAfter splitter seen
    → IsBetweenLinesOrQuit quit c now engine splitter held seen taken
between_lines_or_quit false splitter seen h in_hand = record { so_far = h; in_hand = in_hand }
between_lines_or_quit true splitter seen h in_hand = (whole seen, h)
