-- A shelf in memory.
use Rattle.std.specs.Prelude.{ℕ, List, [], length, Contains}
use Rattle.hex_io.specs.Mem.{one_more}
use Rattle.hex_io.specs.Shelves.{Shelved, Fetched, is_failed}
use Rattle.hex_io.specs.declared.files.File.{File}
use Rattle.std.specs.Prelude.{Option, None, Some, if◌then◌else◌}

-- what is known of a shelf in memory
pub record MemShelfData : Type 0 where
  pub told : Shelved
  -- the numbers, from 0, of the fetches that are at fault
  pub bad : List ℕ
  pub faults : ℕ

-- the next fetch is among those that are at fault
abbrev pub NextIsBad : MemShelfData → Type 0
NextIsBad s = Contains s.bad (length s.told.tries)

-- the count of faults after a fetch of which this came
abbrev pub faults_after : ℕ → Option Fetched → ℕ
faults_after faults None = faults
faults_after faults (Some fetched) = if is_failed fetched then one_more faults else faults

-- the shelf after a fetch of which this came, which tells so much
abbrev pub after_fetch : MemShelfData → Shelved → Option Fetched → MemShelfData
after_fetch s told came = record s { told = told; faults = faults_after s.faults came }

-- the shelf that a program made of these files, before any fetch
abbrev pub new_shelf : List File → List ℕ → MemShelfData
new_shelf files bad = record {
  told = record { files = files; tries = [] };
  bad = bad;
  faults = 0;
}
