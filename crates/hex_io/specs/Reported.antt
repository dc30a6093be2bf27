-- What is given to a link for a line of failure.
use Rattle.std.specs.Prelude.{ℕ, List, ◌⊎◌}
use Rattle.std.specs.declared.option.Option.{Option}
use Rattle.hex_io.specs.Told.{Told}
use Rattle.hex_io.specs.Causes.{Rose}
use Rattle.hex_io.specs.Grew.{Gave, GavePart}

-- the line was given, or a prefix of it if the count of faults rose
abbrev pub Reported : Option Told → Option Told → ℕ → ℕ → List ℕ → Type 0
Reported old new before now line = Gave old new line ⊎ (GavePart old new line × Rose before now)
