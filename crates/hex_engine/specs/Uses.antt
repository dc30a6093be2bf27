-- Where what a conversation used up came from: its shelf, and the searches whose turns its archive
-- took.
use Rattle.std.specs.Prelude.{◌≡◌, ◌≤◌, ℕ, Bool, false, List, [], ◌∷◌, ◌++◌, length, Option}
use Rattle.hex_io.specs.Told.{Both}
use Rattle.hex_io.specs.declared.files.File.{File}
use Rattle.hex_io.specs.Shelves.{Shelved, Fetched, Failed, Missing, Long, Contents, fetched_of}
use Rattle.hex_game.specs.Games.{GameData}
use Rattle.sgf_game.specs.RecordOf.{IsRecordOf}
use Rattle.hex_plan.specs.Turns.{TurnData}
use Rattle.hex_plan.specs.Good.{IsGood}
use Rattle.hex_engine.specs.Supply.{Load, Supply, nothing_left}
use Rattle.hex_engine.specs.declared.loadsgf.Loaded.{Loaded}
use Rattle.hex_engine.specs.declared.loadsgf.Loaded.TheVariants.{Unread, Refused, Loads}
use Rattle.hex_engine.specs.EngineState.{EngineState}
use Rattle.hex_engine.specs.Requests.{ReactsWith, IsBrief, obeyed}
use Rattle.hex_engine.specs.declared.answers.Answer.{Answer}
use Rattle.hex_engine.specs.declared.commands.Command.TheVariants as command
use Rattle.hex_engine.specs.declared.commands.Using.{Using}
use Rattle.hex_engine.specs.declared.options.Options.{Options}

-- what comes of bytes: the game of which they are a record, or, if there is none, a refusal
abbrev pub IsReadAs : List ℕ → Loaded → Type 0
IsReadAs bytes Unread = ⊥
IsReadAs bytes Refused = (game : GameData) → ¬ IsRecordOf bytes game
IsReadAs bytes (Loads game) = IsRecordOf bytes game

-- what comes of a file of which a fetch came to this
abbrev pub IsLoadOf : Fetched → Loaded → Type 0
IsLoadOf Failed loaded = loaded ≡ Unread
IsLoadOf Missing loaded = loaded ≡ Refused
IsLoadOf Long loaded = loaded ≡ Refused
IsLoadOf (Contents bytes) loaded = IsReadAs bytes loaded

-- each load came of the fetch of its name, in turn: for each fetch it is told whether it was at
-- fault
abbrev pub CameOf : List File → List Bool → List Load → Type 0
CameOf files [] [] = Unit {0}
CameOf files [] (load ∷ loads) = ⊥
CameOf files (failed ∷ tries) [] = ⊥
CameOf files (failed ∷ tries) (load ∷ loads) = IsLoadOf
    (fetched_of files failed load.name) load.what × CameOf files tries loads

-- the files stay, and the loads came of the fetches that were tried since, but for those at the end
-- that came to nothing
pub record FetchesLoads (old new : Shelved) (loads : List Load) (in_vain : List Bool) : Type 0 where
  pub tries : List Bool
  pub tried : new ≡ record old { tries = old.tries ++ (tries ++ in_vain) }
  pub came : CameOf old.files tries loads

-- the same, if the shelf tells it
abbrev pub Loading : Option Shelved → Option Shelved → Supply → List Bool → Type 0
Loading old new used in_vain = Both old new (λ o n. FetchesLoads o n used.loads in_vain)

-- each of these turns is one that a session with these options owes
abbrev pub AreGood : Options → List TurnData → Type 0
AreGood options [] = Unit {0}
AreGood options (turn ∷ turns) =
    IsGood options.knobs options.means turn × AreGood options turns

-- one worker searches, and no connections are looked for
pub record HasOneWorker (options : Options) : Type 0 where
  pub workers : options.knobs.workers ≡ 1
  pub no_connections : options.means.hsearch ≡ false

-- the archive, if it tells it, took these turns, and each is good
pub record Moving (options : Options) (old new : Option (List TurnData))
    (used : Supply) : Type 0 where
  pub took : Both old new (λ o n. n ≡ o ++ used.turns)
  pub good : AreGood options used.turns

-- This was used up since: its loads came of the shelf's fetches, and its turns were taken by the
-- archive.
pub record Uses (options : Options) (shelf shelf_now : Option Shelved)
    (archive archive_now : Option (List TurnData)) (used : Supply)
    (in_vain : List Bool) : Type 0 where
  pub loading : Loading shelf shelf_now used in_vain
  pub moving : Moving options archive archive_now used

-- nothing was used up, and one fetch at most came to nothing
pub record UsesNothing (options : Options) (shelf shelf_now : Option Shelved)
    (archive archive_now : Option (List TurnData)) : Type 0 where
  pub in_vain : List Bool
  pub few : length in_vain ≤ 1
  pub uses : Uses options shelf shelf_now archive archive_now nothing_left in_vain

-- A command with these arguments was answered so: this was used up for it, and the answer, with
-- what stands after it, is what the command does with that to use up. The answer is brief.
pub record Answered (engine : EngineState) (shelf shelf_now : Option Shelved)
    (archive archive_now : Option (List TurnData)) (what : Using) (args : List (List ℕ))
    (answer : Answer) (after : EngineState) : Type 0 where
  pub used : Supply
  pub uses : Uses engine.options shelf shelf_now archive archive_now used []
  pub reacts : ReactsWith (λ left. obeyed engine left (command.Using what) args) used answer after
  pub brief : IsBrief answer
