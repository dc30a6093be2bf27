-- What is said to a line at once, and what is asked for it.
use Rattle.std.proofs.Common.{◌≡◌, ◌++◌, ◌∙◌, ℕ, Bool, false, List, [], Option, Some, None}
use Rattle.std.proofs.Common.{Result, Ok, Err, refl, ap, sym, subst, append-nil, arith}
use Rattle.std.specs.Prelude.{IfOk, OnOk, OnErr}
use Rattle.hex_io.specs.Causes.{CountsFault}
use Rattle.hex_io.specs.Grew.{Gave, GaveProperPart}
use Rattle.hex_io.specs.Told.{Same}
use Rattle.hex_io.proofs.BothLaws.{Both-weaker}
use Rattle.hex_io.proofs.GaveLaws.{Gave-nothing}
use Rattle.htp_line.specs.declared.request.Request.{Request}
use Rattle.htp_line.specs.declared.request.Parsed.TheVariants as parsed
use Rattle.hex_engine.specs.EngineState.{EngineState}
use Rattle.hex_engine.specs.Replies.{NoTurn}
use Rattle.hex_engine.specs.Supply.{Supply, nothing_left}
use Rattle.hex_engine.specs.Requests.{ComesTo, obeyed, reaction, reaction_by}
use Rattle.hex_engine.specs.Uses.{Answered}
use Rattle.hex_engine.specs.declared.answers.Answer.{Answer}
use Rattle.hex_engine.specs.declared.answers.Asked.TheVariants.{Using as AsksFor}
use Rattle.hex_engine.specs.declared.commands.Command.TheVariants as command
use Rattle.hex_engine.specs.declared.commands.Using.{Using}
use Rattle.hex_engine.specs.declared.answers.EngineError.{EngineError}
use Rattle.hex_engine.specs.declared.answers.EngineError.TheVariants as engine
use Rattle.hex_devices.specs.Devices.{CountsStop, DevicesState, shelf_and_archive, stop_as}
use Rattle.hex_devices.specs.declared.errors.OutputError.{OutputError}
use Rattle.hex_devices.specs.declared.errors.OutputError.TheVariants as output
use Rattle.hex_devices.specs.declared.stops.Stop.{Stop}
use Rattle.hex_devices.specs.declared.stops.Stop.TheVariants.{ReadFault, WriteFault, Memory}
use Rattle.hex_devices.specs.declared.stops.Stop.TheVariants.{ArchiveFault}
use Rattle.htp_session.specs.Talk.{TalkState, Going, after_reaction, after_reading}
use Rattle.htp_session.specs.Usage.{AnswersWith, Wants, UsesUpNothing}
use Rattle.htp_session.specs.Calls.Answering.{Speaks, Writes, WritesReply}
use Rattle.htp_session.specs.Calls.Asking.{Asks, Replies, after_question, output_of_engine}
use Rattle.htp_session.specs.Calls.Asking.{stop_of_engine}
use Rattle.htp_session.specs.declared.questions.Question.{Question}
use Rattle.htp_session.specs.declared.answering.Said.{Said}
use Rattle.htp_session.specs.declared.answering.Said.TheVariants.{Whole, Open}
use Rattle.htp_session.proofs.UsageLaws.{says_nothing_used, nothing_used}

-- ---- at once

-- a refusal was written
pub refused : {E : Type 0} (at : EngineState) (says : Supply → TalkState) (text old out : List ℕ)
    (result : Result Said E)
    → ((later : Supply) → says later ≡ record { text = text; at = at; left = later; ending = Going })
    → OnOk result (out ≡ old ++ text) → IfOk result (λ said. said ≡ Whole false)
    → IfOk result (Speaks at at says old out)
refused at says text old out (Ok said) is wrote whole = rw whole (text, wrote, is)
refused at says text old out (Err error) is wrote whole = tt

-- a request that may use something up is answered as the command that it asks for
pub unspoken : (before after : EngineState) (request : Request) (what : Using) (out : List ℕ)
    → ComesTo before request after (AsksFor what)
    → (out ≡ out) × (after ≡ before) × ((later : Supply)
    → after_reading before later (parsed.Request request) ≡ after_reaction before later request.id
    (obeyed before later (command.Using what) request.args))
unfolding reaction
unspoken before after request what out comes = (
  refl,
  comes.0,
  λ later. ap (λ k. after_reaction before later request.id (reaction_by before later k request.args)) comes.1,
)

-- ---- over the devices

-- what was said at once is held
pub held_whole : (d : DevicesState) (before after : EngineState) (says : Supply → TalkState)
    (held held_now : List ℕ) (quit : Bool)
    → Speaks before after says held held_now (Whole quit)
    → Writes d d before after says held held_now (Ok quit)
held_whole d before after says held held_now quit s = (
  s.0,
  ([], sym s.1, Gave-nothing d.link),
  says_nothing_used before.options (shelf_and_archive d) says s.0 after quit s.2,
)

-- what a question comes to, the line comes to
pub written_line : (old new : DevicesState) (before mid after : EngineState)
    (says : Supply → TalkState) (held held_mid held_now : List ℕ) (question : Question)
    (result : Result Bool OutputError)
    → Speaks before mid says held held_mid (Open question)
    → WritesReply old new mid after question held_mid held_now result
    → Writes old new before after says held held_now result
written_line old new before mid after says held held_mid held_now question result s w =
    let at_first : WritesReply old new before after question held held_now result =
    subst (λ h. WritesReply old new before after question h held_now result) s.0
    (subst (λ e. WritesReply old new e after question held_mid held_now result) s.1 w) in
    subst (λ said. Writes old new before after said held held_now result)
    (λ i later. sym (s.2 later) i) at_first

-- memory ran out: what was held was given, or a front of it
pub ran_out : (old new : DevicesState) (before after : EngineState) (says : Supply → TalkState)
    (held held_mid held_now : List ℕ) → held_mid ≡ held → Gave old.link new.link held_mid
    → shelf_and_archive new ≡ shelf_and_archive old
    → Writes old new before after says held held_now (Err output.Memory)
ran_out old new before after says held held_mid held_now is gave same = (
  subst (Gave old.link new.link) is gave,
  subst (UsesUpNothing before.options (shelf_and_archive old)) (sym same)
      (nothing_used before.options (shelf_and_archive old)),
)

pub ran_out_unwritten : (old new : DevicesState) (before after : EngineState)
    (says : Supply → TalkState) (held held_mid held_now : List ℕ) → held_mid ≡ held
    → GaveProperPart old.link new.link held_mid → shelf_and_archive new ≡ shelf_and_archive old
    → Writes old new before after says held held_now (Err output.Write)
ran_out_unwritten old new before after says held held_mid held_now is part same =
    (subst (GaveProperPart old.link new.link) is part, same)

-- a question was answered after what was held had been given
pub replied_after : (old mid new : DevicesState) (before after : EngineState) (question : Question)
    (held none held_now : List ℕ) (quit : Bool) → Gave old.link mid.link held → none ≡ []
    → shelf_and_archive mid ≡ shelf_and_archive old → new.link ≡ mid.link
    → Replies mid new before after question none held_now (Ok quit)
    → WritesReply old new before after question held held_now (Ok quit)
replied_after old mid new before after question held none held_now quit gave empty same link r =
    let is : held_now ≡ r.0 = r.1 ∙ ap (λ l. l ++ r.0) empty in
    let says : Supply → TalkState = λ left. after_question before left question in (
      r.0,
      (held, ap (λ l. held ++ l) (sym is), subst (λ l. Gave old.link l held) (sym link) gave),
      subst (λ a. AnswersWith before.options a (shelf_and_archive new) says r.0 after quit) same r.2,
    )

pub unreplied_after : (old mid new : DevicesState) (before after : EngineState)
    (question : Question) (held none held_now : List ℕ) (error : EngineError)
    → Gave old.link mid.link held → shelf_and_archive mid ≡ shelf_and_archive old
    → new.link ≡ mid.link → Replies mid new before after question none held_now (Err error)
    → WritesReply old new before after question held held_now (Err (output_of_engine error))
unreplied_after old mid new before after question held none held_now engine.Memory gave same link r = (
  subst (λ l. Gave old.link l held) (sym link) gave,
  subst (λ a. UsesUpNothing before.options a (shelf_and_archive new)) same r,
)
unreplied_after old mid new before after question held none held_now engine.Archive gave same link r =
    let says : Supply → TalkState = λ left. after_question before left question in (
      subst (λ l. Gave old.link l held) (sym link) gave,
      subst (λ a. Wants before.options a (shelf_and_archive new) before says) same r,
    )

-- ---- what the engine answered, told of the devices

pub asked : (old new : DevicesState) (before after : EngineState) (question : Question)
    (args : List (List ℕ)) (result : Result Answer EngineError) → args ≡ question.request.args
    → IfOk result
    (λ a. Answered before old.shelf new.shelf old.turns new.turns question.command args a after)
    → OnErr result
    (UsesUpNothing before.options (shelf_and_archive old) (shelf_and_archive new))
    → (result ≡ Err engine.Archive → obeyed before nothing_left (command.Using question.command) args ≡ Err NoTurn)
    → (result ≡ Err engine.Archive → Same old.shelf new.shelf)
    → Asks old new before after question result
asked old new before after question args (Ok answer) is answered vain wants same
    = subst (λ l. Answered before old.shelf new.shelf old.turns new.turns question.command l answer after) is answered
asked old new before after question args (Err engine.Memory) is answered vain wants same = vain
asked old new before after question args (Err engine.Archive) is answered vain wants same = (
  record {
    loading = Both-weaker old.shelf new.shelf _ _
        (λ o n e. record { tries = []; tried = e ∙ ap (λ l. record o { tries = l }) (sym (append-nil o.tries)); came = tt })
        (same refl);
    moving = vain.uses.moving;
  },
  subst (λ l. obeyed before nothing_left (command.Using question.command) l ≡ Err NoTurn) is (wants refl),
)

count_kept : (a b : ℕ) (t : Stop) (stop : Option Stop) → b ≡ a → (stop ≡ Some t → ⊥)
    → CountsFault a b (stop ≡ Some t)
count_kept a b t stop same none =
    record { later = omega (arith, same); rose = λ e. absurd (none e); kept = λ e. same }

pub asked_counts : (old new : DevicesState) (result : Result Answer EngineError)
    → new.read_faults ≡ old.read_faults → new.write_faults ≡ old.write_faults
    → CountsFault old.archive_faults new.archive_faults (result ≡ Err engine.Archive)
    → new.names ≡ old.names → CountsStop old new (stop_as stop_of_engine result)
asked_counts old new (Ok answer) reads writes archives names = record {
  reads = count_kept _ _ ReadFault None reads (λ e. cc);
  writes = count_kept _ _ WriteFault None writes (λ e. cc);
  archives = record {
    later = archives.later;
    rose = λ e. absurd (cc);
    kept = λ e. archives.kept (λ e. cc);
  };
  names = names;
}
asked_counts old new (Err engine.Memory) reads writes archives names = record {
  reads = count_kept _ _ ReadFault (Some Memory) reads (λ e. cc);
  writes = count_kept _ _ WriteFault (Some Memory) writes (λ e. cc);
  archives = record {
    later = archives.later;
    rose = λ e. absurd (cc);
    kept = λ e. archives.kept (λ e. cc);
  };
  names = names;
}
asked_counts old new (Err engine.Archive) reads writes archives names = record {
  reads = count_kept _ _ ReadFault (Some ArchiveFault) reads (λ e. cc);
  writes = count_kept _ _ WriteFault (Some ArchiveFault) writes (λ e. cc);
  archives = record {
    later = archives.later;
    rose = λ e. archives.rose refl;
    kept = λ e. absurd (e refl);
  };
  names = names;
}

-- one that was not answered gave no reply
pub unanswered : (old new : DevicesState) (before after : EngineState) (question : Question)
    (out out_now : List ℕ) (error : EngineError)
    → Asks old new before after question (Err error)
    → Replies old new before after question out out_now (Err error)
unanswered old new before after question out out_now engine.Memory a = a
unanswered old new before after question out out_now engine.Archive a =
    record { uses = a.0; is = ap (after_reaction before nothing_left question.request.id) a.1 }
