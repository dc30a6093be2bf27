-- A conversation that keeps its invariant.
use Rattle.std.proofs.Common.{◌≡◌, ◌≤◌, ℕ, None, List, [], ◌++◌, length, take, ap, sym}
use Rattle.std.proofs.Common.{subst, ◌∙◌, append-nil, append_assoc, Option, arith}
use Rattle.hex_io.specs.Told.{Told, Both, TakesBytes}
use Rattle.hex_io.specs.Grew.{Gave}
use Rattle.hex_io.proofs.BothLaws.{Both-then, Both-refl}
use Rattle.htp_line.specs.Lines.{whole}
use Rattle.htp_line.specs.Splitting.{SplitterData, StandsAfter}
use Rattle.hex_engine.specs.declared.options.Options.{Options}
use Rattle.hex_engine.specs.EngineState.{EngineState}
use Rattle.hex_engine.specs.Supply.{Supply, nothing_left}
use Rattle.htp_session.specs.Talk.{TalkState, Ending, Going, talk}
use Rattle.htp_session.specs.Usage.{UsesUp}
use Rattle.htp_session.specs.Sessions.{Conversation, TookAndGave, HasAnswered, IsBetweenLines}
use Rattle.htp_session.specs.Sessions.{first_state_of, all_used}
use Rattle.htp_session.specs.Endings.{ConversedInGoodTurns}
use Rattle.hex_devices.specs.Devices.{DevicesState, ShelfAndArchive, Outcome, CountsStop}
use Rattle.hex_devices.specs.Devices.{shelf_and_archive}
use Rattle.hex_devices.proofs.CountLaws.{counts_nothing, counts_then}
use Rattle.htp_session.proofs.TalkLaws.{talk_to-nil}
use Rattle.htp_session.proofs.SupplyLaws.{talk_options}
use Rattle.htp_session.proofs.UsageLaws.{uses_nothing}
use Rattle.htp_session.proofs.Keeping.{giving_more, taking_nothing, taking_more, lines-append}

-- the engine's options are those of the conversation
pub options_of : {c : Conversation} {now : DevicesState} {engine : EngineState}
    {held taken : List ℕ} {ls : List (List ℕ)} {ending : Ending}
    → HasAnswered c now engine held taken ls ending → engine.options ≡ c.options
options_of {c} {ls} h =
    ap (λ (s : TalkState). s.at.options) (sym h.says) ∙ talk_options (first_state_of c) h.used ls

-- a call that left the shelf and the archive alone
pub uses_same : (c : Conversation) (old new : DevicesState) (used : Supply)
    → shelf_and_archive new ≡ shelf_and_archive old
    → UsesUp c.options (shelf_and_archive c.began) (shelf_and_archive old) used []
    → UsesUp c.options (shelf_and_archive c.began) (shelf_and_archive new) used []
uses_same c old new used same uses
    = subst (λ a. UsesUp c.options (shelf_and_archive c.began) a used []) (sym same) uses

-- more was given
pub told_giving : (c : Conversation) (old new : DevicesState) (used : Supply)
    (taken given bytes : List ℕ)
    → Both c.began.link old.link (λ o n. TookAndGave (first_state_of c) used o n taken given)
    → Gave old.link new.link bytes
    → Both c.began.link new.link (λ o n. TookAndGave (first_state_of c) used o n taken (given ++ bytes))
told_giving c old new used taken given bytes told gave =
    Both-then c.began.link old.link new.link _ _ _
    (λ x y z k g. giving_more (first_state_of c) used x y z taken given bytes k g) told gave

-- before the first byte
pub before_first_byte : (c : Conversation) (engine : EngineState) (splitter : SplitterData)
    → engine ≡ first_state_of c → StandsAfter splitter [] → IsBetweenLines c c.began engine splitter [] [] []
before_first_byte c engine splitter is in_hand = record {
  so_far = record {
    used = nothing_left;
    uses = uses_nothing c.options (shelf_and_archive c.began);
    given = [];
    says = talk_to-nil (first_state_of c) nothing_left ∙ ap (λ e. all_used [] e Going) (sym is);
    first = lines-append [] [];
    in_limit = omega arith;
    told = Both-refl c.began.link _ (λ o. taking_nothing (first_state_of c) nothing_left o);
    counts = counts_nothing c.began;
  };
  in_hand = in_hand;
}

-- a read took more, and nothing was held
pub between_lines_taking : {c : Conversation} {old new : DevicesState} {engine : EngineState}
    {splitter : SplitterData} {seen : List ℕ} (buf : List ℕ) (n : ℕ)
    → IsBetweenLines c old engine splitter [] seen seen
    → shelf_and_archive new ≡ shelf_and_archive old
    → Both old.link new.link (λ o t. TakesBytes o t n buf) → CountsStop old new None
    → length (seen ++ take n buf) ≤ c.limit
    → IsBetweenLines c new engine splitter [] seen (seen ++ take n buf)
between_lines_taking {c} {old} {new} {seen} buf n h same reads counts few =
    let k = h.so_far in
    let text : k.given ≡ (talk (first_state_of c) k.used (whole seen)).text =
    sym (ap (λ (s : TalkState). s.text) k.says ∙ append-nil k.given) in
    record {
      so_far = record {
        used = k.used;
        uses = uses_same c old new k.used same k.uses;
        given = k.given;
        says = k.says;
        first = lines-append seen (take n buf);
        in_limit = few;
        told = Both-then c.began.link old.link new.link _ _ _
            (λ x y z p t. taking_more (first_state_of c) k.used x y z seen k.given buf n p text
            (ap (λ (s : TalkState). s.ending) k.says) t) k.told reads;
        counts = counts_then c.began old new None k.counts counts;
      };
      in_hand = h.in_hand;
    }

-- a prefix of what was held was given
pub gives_some : {c : Conversation} {old new : DevicesState} {engine : EngineState}
    {held rest taken : List ℕ} {ls : List (List ℕ)} {ending : Ending} (front : List ℕ)
    → HasAnswered c old engine held taken ls ending → held ≡ front ++ rest
    → Gave old.link new.link front → shelf_and_archive new ≡ shelf_and_archive old
    → CountsStop old new None → HasAnswered c new engine rest taken ls ending
gives_some {c} {old} {new} {engine} {rest} {taken} {ending} front h parts gave same counts = record {
  used = h.used;
  uses = uses_same c old new h.used same h.uses;
  given = h.given ++ front;
  says = h.says ∙ ap (λ l. all_used l engine ending)
      (ap (λ l. h.given ++ l) parts ∙ sym (append_assoc h.given front rest));
  first = h.first;
  in_limit = h.in_limit;
  told = told_giving c old new h.used taken h.given front h.told gave;
  counts = counts_then c.began old new None h.counts counts;
}

-- all of it was given
pub gives_all : {c : Conversation} {old new : DevicesState} {engine : EngineState}
    {held taken : List ℕ} {ls : List (List ℕ)} {ending : Ending}
    → HasAnswered c old engine held taken ls ending → Gave old.link new.link held
    → shelf_and_archive new ≡ shelf_and_archive old → CountsStop old new None
    → HasAnswered c new engine [] taken ls ending
gives_all {held} h gave same counts =
    gives_some held h (sym (append-nil held)) gave same counts

-- the same options and size
pub conversed_same : (end : Outcome) (k l : Options) (m n limit : ℕ) (a b : ShelfAndArchive)
    (x y : Option Told) → k ≡ l → m ≡ n → ConversedInGoodTurns end k m limit a b x y
    → ConversedInGoodTurns end l n limit a b x y
conversed_same end k l m n limit a b x y p q c
    = subst (λ o. ConversedInGoodTurns end o n limit a b x y) p
    (subst (λ s. ConversedInGoodTurns end k s limit a b x y) q c)
