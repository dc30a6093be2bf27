-- What a conversation keeps from one call to the next. Only clauses of private calls cite what is
-- here.
use Rattle.std.specs.Prelude.{◌≡◌, ◌≤◌, ℕ, Bool, true, false, List, ◌++◌, [], length, None}
use Rattle.std.specs.List.{AllByRecursion}
use Rattle.hex_io.specs.Told.{Told, Both}
use Rattle.htp_line.specs.Lines.{whole, lines}
use Rattle.htp_line.specs.Splitting.{SplitterData, StandsAfter}
use Rattle.hex_engine.specs.declared.options.Options.{Options}
use Rattle.hex_engine.specs.EngineState.{EngineState, opening}
use Rattle.hex_engine.specs.Supply.{Supply, nothing_left}
use Rattle.htp_session.specs.Talk.{TalkState, Ending, Going, AfterQuit, talk}
use Rattle.htp_session.specs.Usage.{UsesUp}
use Rattle.htp_session.specs.Endings.{Shown}
use Rattle.htp_session.specs.Calls.Conversation.{Converses}
use Rattle.hex_devices.specs.Devices.{DevicesState, Outcome, CountsStop, CountsFaults}
use Rattle.hex_devices.specs.Devices.{shelf_and_archive}

-- a conversation: its options, the size of its first board, the most bytes that it answers, and
-- what its devices told as it began
pub record Conversation : Type 0 where
  pub options : Options
  pub size : ℕ
  pub limit : ℕ
  pub began : DevicesState

-- what it stands at before its first line
abbrev pub first_state_of : Conversation → EngineState
first_state_of c = opening c.options c.size

-- since then this was taken and that given, and each read that was answered came after the answers
-- to all whole lines before it
pub record TookAndGave (start : EngineState) (used : Supply) (old new : Told)
    (seen text : List ℕ) : Type 0 where
  pub taken : new.taken ≡ old.taken ++ seen
  pub moved : old.to_come ≡ seen ++ new.to_come
  pub given : new.given ≡ old.given ++ text
  pub asks : (added : List (ℕ × ℕ)) × (new.asks ≡ old.asks ++ added)
      × AllByRecursion (Shown start used old new) added

-- a talk that said this, stands here and used up all
abbrev pub all_used : List ℕ → EngineState → Ending → TalkState
all_used text at ending = record { text = text; at = at; left = nothing_left; ending = ending }

-- The invariant of a conversation: this was taken, and of its lines the first ones were answered.
-- What was given, and after it what is held, is the text of the talk over them. The talk has to use
-- up what came of the shelf and went to the archive, and used up all of it. No fault was counted.
pub record HasAnswered (c : Conversation) (now : DevicesState) (engine : EngineState)
    (held taken : List ℕ) (answered : List (List ℕ)) (ending : Ending) : Type 0 where
  pub used : Supply
  pub uses : UsesUp c.options (shelf_and_archive c.began) (shelf_and_archive now) used []
  pub given : List ℕ
  pub says : talk (first_state_of c) used answered ≡ all_used (given ++ held) engine ending
  pub first : (others : List (List ℕ)) × (lines taken ≡ answered ++ others)
  pub in_limit : length taken ≤ c.limit
  pub told : Both c.began.link now.link (λ o n. TookAndGave (first_state_of c) used o n taken given)
  pub counts : CountsStop c.began now None

-- the same between two lines: the talk goes on, and of what was taken all whole lines up to here
-- were answered
pub record IsBetweenLines (c : Conversation) (now : DevicesState) (engine : EngineState)
    (splitter : SplitterData) (held seen taken : List ℕ) : Type 0 where
  pub so_far : HasAnswered c now engine held taken (whole seen) Going
  pub in_hand : StandsAfter splitter seen

-- the same after a line, by whether quit was answered
abbrev pub IsBetweenLinesOrQuit : Bool → Conversation → DevicesState → EngineState → SplitterData
    → List ℕ → List ℕ → List ℕ → Type 0
IsBetweenLinesOrQuit false c now engine splitter held seen taken =
    IsBetweenLines c now engine splitter held seen taken
IsBetweenLinesOrQuit true c now engine splitter held seen taken =
    (answered : List (List ℕ)) × HasAnswered c now engine held taken answered AfterQuit

-- the input came to its end
abbrev pub HasNoMore : Conversation → DevicesState → Type 0
HasNoMore c now = Both c.began.link now.link (λ o n. n.to_come ≡ [])

-- the conversation came to this outcome
pub record CameTo (c : Conversation) (now : DevicesState) (outcome : Outcome) : Type 0 where
  pub converses : Converses c.options c.size c.limit c.began now outcome
  pub counts : CountsFaults c.began now outcome
