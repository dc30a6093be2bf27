-- How what a link tells goes on.
use Rattle.std.specs.Prelude.{◌≡◌, ℕ, ◌<◌, List, ◌++◌, length}
use Rattle.std.specs.declared.option.Option.{Option}
use Rattle.hex_io.specs.Told.{Told, Both, GivesBytes}

-- if the link tells, these bytes were given, and nothing else changed
abbrev pub Gave : Option Told → Option Told → List ℕ → Type 0
Gave old new bytes = Both old new (λ o n. GivesBytes o n bytes)

-- if the link tells, a prefix of these bytes was given, and nothing else changed
abbrev pub GavePart : Option Told → Option Told → List ℕ → Type 0
GavePart old new bytes =
    (part : List ℕ) × (more : List ℕ) × (bytes ≡ part ++ more) × Gave old new part

-- if the link tells, a prefix of these bytes was given that is not all of them, and nothing else
-- changed
abbrev pub GaveProperPart : Option Told → Option Told → List ℕ → Type 0
GaveProperPart old new bytes =
    (part : List ℕ) × (more : List ℕ) × (bytes ≡ part ++ more) × (0 < length more)
    × Gave old new part
