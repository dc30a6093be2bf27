-- How a conversation ends, and what stands then.
use Rattle.std.specs.Prelude.{◌≡◌, ℕ, Bool, ◌+◌, ◌<◌, ◌≤◌, ◌⊎◌, List, [], ◌++◌, length, take, drop}
use Rattle.std.specs.Prelude.{Result, Ok, Err}
use Rattle.std.specs.List.{AllByRecursion}
use Rattle.std.specs.declared.option.Option.{Option}
use Rattle.hex_io.specs.Told.{Told, Both}
use Rattle.htp_line.specs.Lines.{lines}
use Rattle.hex_engine.specs.declared.options.Options.{Options}
use Rattle.hex_engine.specs.EngineState.{EngineState, opening}
use Rattle.hex_engine.specs.Replies.{NoTurn}
use Rattle.hex_engine.specs.Supply.{Supply, nothing_left}
use Rattle.hex_engine.specs.Uses.{AreGood, Loading}
use Rattle.htp_session.specs.Talk.{Going, AfterQuit, Short, IsThrough, talk, talk_to}
use Rattle.hex_devices.specs.Devices.{ShelfAndArchive}
use Rattle.hex_devices.specs.Devices.{Outcome}
use Rattle.hex_devices.specs.declared.stops.Stop.TheVariants.{ReadFault, WriteFault, Memory}
use Rattle.hex_devices.specs.declared.stops.Stop.TheVariants.{TooLong, ArchiveFault}

-- the bytes taken since
abbrev pub since : Told → Told → List ℕ
since old new = drop (length old.taken) new.taken

-- when this read began, what was given was the talk over all whole lines taken by then, and it went
-- on
pub record Shown (start : EngineState) (all : Supply) (old new : Told) (ask : ℕ × ℕ) : Type 0 where
  pub in_taken : ask.0 ≤ length new.taken
  pub in_given : ask.1 ≤ length new.given
  pub answered : take ask.1 new.given ≡ old.given
      ++ (talk_to start all (drop (length old.taken) (take ask.0 new.taken))).text
  pub going : (talk_to start all (drop (length old.taken) (take ask.0 new.taken))).ending ≡ Going

-- the bytes taken are the first of those that were to come, and each read that was answered came
-- after the answers
pub record Course (start : EngineState) (all : Supply) (old new : Told) : Type 0 where
  pub taken : new.taken ≡ old.taken ++ since old new
  pub moved : old.to_come ≡ since old new ++ new.to_come
  pub asks : (added : List (ℕ × ℕ)) × (new.asks ≡ old.asks ++ added)
      × AllByRecursion (Shown start all old new) added

-- the talk over all lines was given, to the end of the input or to an answered quit
pub record Finished (start : EngineState) (all : Supply) (limit : ℕ) (old new : Told) : Type 0 where
  pub in_limit : length (since old new) ≤ limit
  pub given : new.given ≡ old.given ++ (talk start all (lines (since old new))).text
  pub through : IsThrough (talk start all (lines (since old new)))
  pub ended : (new.to_come ≡ []) ⊎ ((talk start all (lines (since old new))).ending ≡ AfterQuit)

-- a read failed: the talk over the whole lines was given
pub record Unread (start : EngineState) (all : Supply) (limit : ℕ) (old new : Told) : Type 0 where
  pub in_limit : length (since old new) ≤ limit
  pub given : new.given ≡ old.given ++ (talk_to start all (since old new)).text
  pub going : (talk_to start all (since old new)).ending ≡ Going
  pub used : (talk_to start all (since old new)).left ≡ nothing_left

-- the archive failed: the talk over all lines was given, and it stopped before a move that wants a
-- turn
pub record Unarchived (start : EngineState) (all : Supply) (limit : ℕ)
    (old new : Told) : Type 0 where
  pub in_limit : length (since old new) ≤ limit
  pub given : new.given ≡ old.given ++ (talk start all (lines (since old new))).text
  pub wants : (talk start all (lines (since old new))).ending ≡ Short NoTurn
  pub used : (talk start all (lines (since old new))).left ≡ nothing_left

-- a write failed: a prefix of the talk was given
pub record Unwritten (start : EngineState) (all : Supply) (limit : ℕ)
    (old new : Told) : Type 0 where
  pub in_limit : length (since old new) ≤ limit
  pub given : (part : List ℕ) × (more : List ℕ)
      × ((talk start all (lines (since old new))).text ≡ part ++ more)
      × (new.given ≡ old.given ++ part)

-- memory ran out at a line, or before the first read: the talk over the lines before it was given,
-- which used up all, and a line more stands there unless nothing was taken
pub record Unfinished (start : EngineState) (all : Supply) (limit : ℕ)
    (old new : Told) : Type 0 where
  pub in_limit : length (since old new) ≤ limit
  pub before : ℕ
  pub given : new.given ≡ old.given ++ (talk start all (take before (lines (since old new)))).text
  pub going : (talk start all (take before (lines (since old new)))).ending ≡ Going
  pub used : (talk start all (take before (lines (since old new)))).left ≡ nothing_left
  pub line : (before < length (lines (since old new))) ⊎ (since old new ≡ [])

-- one byte more than the limit was taken: the talk over the whole lines up to the limit was given
pub record Overlong (start : EngineState) (all : Supply) (limit : ℕ) (old new : Told) : Type 0 where
  pub many : length (since old new) ≡ limit + 1
  pub given : new.given ≡ old.given ++ (talk_to start all (take limit (since old new))).text
  pub going : (talk_to start all (take limit (since old new))).ending ≡ Going
  pub used : (talk_to start all (take limit (since old new))).left ≡ nothing_left

-- what stands at each end
abbrev pub EndsAs : Outcome → EngineState → Supply → ℕ → Told → Told → Type 0
EndsAs (Ok done) = Finished
EndsAs (Err ReadFault) = Unread
EndsAs (Err WriteFault) = Unwritten
EndsAs (Err Memory) = Unfinished
EndsAs (Err TooLong) = Overlong
EndsAs (Err ArchiveFault) = Unarchived

-- a conversation from its first byte to this end, with all this to use up
pub record Ended (end : Outcome) (start : EngineState) (all : Supply) (limit : ℕ)
    (old new : Told) : Type 0 where
  pub course : Course start all old new
  pub ends : EndsAs end start all limit old new

-- a fetch came to nothing only if memory ran out, and then one at most
abbrev pub IsInVain : Outcome → List Bool → Type 0
IsInVain (Err Memory) in_vain = length in_vain ≤ 1
IsInVain _ in_vain = in_vain ≡ []

-- A conversation with these options, from an empty board of that size to this end, which used up
-- just this: if the shelf tells it, the files stay and each load came of a fetch, in turn; if the
-- archive tells it, it took just these turns; and what stands if the link tells it.
pub record Conversed (end : Outcome) (options : Options) (size limit : ℕ) (used : Supply)
    (old new : ShelfAndArchive) (link link_now : Option Told) : Type 0 where
  pub in_vain : List Bool
  pub fetched : Loading old.0 new.0 used in_vain
  pub vain : IsInVain end in_vain
  pub took : Both old.1 new.1 (λ turns turns_now. turns_now ≡ turns ++ used.turns)
  pub outcome : Both link link_now (Ended end (opening options size) used limit)

-- the same with something to use up of which each turn is good
abbrev pub ConversedInGoodTurns : Outcome → Options → ℕ → ℕ → ShelfAndArchive → ShelfAndArchive
    → Option Told → Option Told → Type 0
ConversedInGoodTurns end options size limit old new link link_now = (used : Supply)
    × Conversed end options size limit used old new link link_now × AreGood options used.turns
