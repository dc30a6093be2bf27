-- What giving bytes does. `old` and `new` are the devices as the call begins and ends.
use Rattle.std.specs.Prelude.{ℕ, List, Result, MatchResult}
use Rattle.hex_io.specs.Grew.{Gave, GaveProperPart}
use Rattle.hex_devices.specs.Devices.{DevicesState}

-- all of the bytes were given, or at a fault a prefix of them that is not all of them
abbrev pub GivesAll : {E : Type 0} → DevicesState → DevicesState → List ℕ → Result (Unit {0}) E
    → Type 0
GivesAll old new bytes result = MatchResult result (λ _. Gave old.link new.link bytes)
    (λ _. GaveProperPart old.link new.link bytes)
