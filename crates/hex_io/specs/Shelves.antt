-- What a shelf tells of itself, and what a fetch answers.
use Rattle.std.specs.Prelude.{◌≡◌, ℕ, Bool, true, false, List, [], ◌∷◌, ◌++◌, length, nat_le}
use Rattle.std.specs.Prelude.{Option, Some, None, option_map, Result, Ok, Err, if◌then◌else◌}
use Rattle.std.specs.List.{find}
use Rattle.std.specs.Str.{bytes_eq}
use Rattle.hex_io.specs.Told.{Both}
use Rattle.hex_io.specs.declared.files.File.{File}
use Rattle.hex_io.specs.declared.limits.TheConstants.{FILE_LIMIT}
use Rattle.hex_io.specs.declared.shelves.ShelfError.{ShelfError}
use Rattle.hex_io.specs.declared.shelves.ShelfError.TheVariants.{Fault, TooLong, Memory}

-- the files of a shelf; of two of one name the first counts
pub record Shelved : Type 0 where
  pub files : List File
  -- for each fetch so far that did not run out of memory, whether it was at fault
  pub tries : List Bool

-- what the file of that name holds
abbrev pub content_of : List File → List ℕ → Option (List ℕ)
content_of files name =
    option_map (λ file. file.content) (find (λ file. bytes_eq file.name name) files)

-- what comes of a fetch
pub data Fetched : Type 0 where
  Failed : Fetched
  Missing : Fetched
  Long : Fetched
  Contents : List ℕ → Fetched

-- what a fetch finds, if none is at fault
abbrev pub found : Option (List ℕ) → Fetched
found None = Missing
found (Some bytes) = if nat_le (length bytes) FILE_LIMIT then Contents bytes else Long

-- what comes of the fetch of a name from these files, by whether it is at fault
abbrev pub fetched_of : List File → Bool → List ℕ → Fetched
fetched_of files true name = Failed
fetched_of files false name = found (content_of files name)

-- whether the fetch was at fault
abbrev pub is_failed : Fetched → Bool
is_failed Failed = true
is_failed _ = false

-- what an answer says, if this reads its bytes; nothing, if memory ran out
abbrev pub says : {T : Type 0} → (T → List ℕ) → Result (Option T) ShelfError → Option Fetched
says bytes (Ok None) = Some Missing
says bytes (Ok (Some file)) = Some (Contents (bytes file))
says bytes (Err Fault) = Some Failed
says bytes (Err TooLong) = Some Long
says bytes (Err Memory) = None

-- the files stay, and one more fetch was tried, of which this came
pub record Tries (old new : Shelved) (name : List ℕ) (fetched : Fetched) : Type 0 where
  pub is : fetched ≡ fetched_of old.files (is_failed fetched) name
  pub tried : new ≡ record old { tries = old.tries ++ is_failed fetched ∷ [] }

-- what a fetch did: if memory ran out, nothing
abbrev pub TriesAs : Shelved → Shelved → List ℕ → Option Fetched → Type 0
TriesAs old new name None = new ≡ old
TriesAs old new name (Some fetched) = Tries old new name fetched

-- the same, if the shelf tells it
abbrev pub Fetches : Option Shelved → Option Shelved → List ℕ → Option Fetched → Type 0
Fetches old new name fetched = Both old new (λ o n. TriesAs o n name fetched)
