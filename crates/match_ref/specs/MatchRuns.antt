-- What a run of the referee does, told of its words, its status, its link and its errors.
use Rattle.std.specs.Prelude.{◌≡◌, ◌⊎◌, ℕ, List, Option, Result, Ok, Err}
use Rattle.hex_io.specs.Causes.{CountsFault, Rose}
use Rattle.hex_io.specs.Grew.{Gave, GaveProperPart}
use Rattle.hex_io.specs.Told.{Told}
use Rattle.hex_io.specs.declared.links.Link as links
use Rattle.hex_devices.specs.Statuses.{HasStopped, status_of}
use Rattle.hex_devices.specs.declared.ends.End.{End}
use Rattle.hex_devices.specs.declared.ends.End.TheVariants.{Done, Usage, Stopped}
use Rattle.hex_devices.specs.declared.stops.Stop.TheVariants.{WriteFault, Memory}
use Rattle.match_ref.specs.Dealt.{AreGamesOf}
use Rattle.match_ref.specs.MatchTexts.{match_text}
use Rattle.match_ref.specs.MatchWords.{AskFor}
use Rattle.match_ref.specs.declared.played.Played.{Played}
use Rattle.match_ref.specs.declared.refusals.MatchError.{MatchError}
use Rattle.match_ref.specs.declared.refusals.MatchError.TheVariants as error
use Rattle.match_ref.specs.declared.words.MatchWords.{MatchWords}

-- The text of the match games was given, or a prefix of it that is not all of it if a write
-- failed. If memory ran out, the link tells what it told before.
abbrev pub Referees : Result (Unit {0}) MatchError → MatchWords → Option Told → Option Told
    → Type 0
Referees (Ok done) w old new =
    (games : List Played) × AreGamesOf w.setup games × Gave old new (match_text w games)
Referees (Err error.Memory) w old new = new ≡ old
Referees (Err error.Write) w old new =
    (games : List Played) × AreGamesOf w.setup games × GaveProperPart old new (match_text w games)

-- how a run ends whose match ended so
abbrev pub end_of_match : Result (Unit {0}) MatchError → End
end_of_match (Ok done) = Done
end_of_match (Err error.Memory) = Stopped Memory
end_of_match (Err error.Write) = Stopped WriteFault

-- the match of the words was refereed to this end
abbrev pub RefereesTo : List (List ℕ) → End → Option Told → Option Told → Type 0
RefereesTo words end old new = (w : MatchWords) → AskFor words w
    → (outcome : Result (Unit {0}) MatchError) × (end ≡ end_of_match outcome)
    × Referees outcome w old new

-- the match of the words was refereed to an end that has this status
abbrev pub RefereesBy : {L : Type 0} → links.Ghosts L → List (List ℕ) → ℕ → L → L → Type 0
RefereesBy l words status old new = (end : End) → status ≡ status_of end
    → RefereesTo words end (l.told old) (l.told new)

-- the status is that of a usage or that of a run that was out of memory
abbrev pub IsMatchRefusal : ℕ → Type 0
IsMatchRefusal status = (status ≡ status_of Usage) ⊎ HasStopped status Memory

-- a run of the referee has one of these statuses
abbrev pub IsMatchStatus : ℕ → Type 0
IsMatchStatus status = (status ≡ status_of Done) ⊎ (status ≡ status_of Usage)
    ⊎ HasStopped status WriteFault ⊎ HasStopped status Memory

-- the link was not written: it tells the same and has counted no fault
pub record LeavesLink {L : Type 0} (l : links.Ghosts L) (old new : L) : Type 0 where
  pub told : l.told new ≡ l.told old
  pub writes : l.write_faults new ≡ l.write_faults old

-- the link's count of write faults rose with status 4, and is as before with every other
abbrev pub CountsMatchWrites : {L : Type 0} → links.Ghosts L → ℕ → L → L → Type 0
CountsMatchWrites l status old new =
    CountsFault (l.write_faults old) (l.write_faults new) (HasStopped status WriteFault)

-- with well-formed words, if no write failed, the match was played, or memory ran out
abbrev pub CompletesMatch : {L : Type 0} → links.Ghosts L → List (List ℕ) → ℕ → L → L → Type 0
CompletesMatch l words status old new = (w : MatchWords) → AskFor words w
    → ¬ Rose (l.write_faults old) (l.write_faults new)
    → (status ≡ status_of Done) ⊎ HasStopped status Memory
