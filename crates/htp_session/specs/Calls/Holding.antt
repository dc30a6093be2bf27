-- What becomes of answers that are held. No clause of a public call cites this.
use Rattle.std.specs.Prelude.{◌≡◌, ℕ, List, ◌++◌}
use Rattle.std.specs.declared.option.Option.{Option}
use Rattle.hex_io.specs.Told.{Told}
use Rattle.hex_io.specs.Grew.{Gave}

-- a prefix of what was held and of these bytes more was given, and the others are held now
abbrev pub Passes : Option Told → Option Told → List ℕ → List ℕ → List ℕ → Type 0
Passes old new held bytes held_now =
    (given : List ℕ) × (held ++ bytes ≡ given ++ held_now) × Gave old new given
