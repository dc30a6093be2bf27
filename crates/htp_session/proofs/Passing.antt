-- What was held and given, by the result of giving it.
use Rattle.std.proofs.Common.{◌≡◌, ℕ, List, [], ◌++◌, ap, sym, Result, Ok, Err}
use Rattle.std.specs.Prelude.{OnOk, OnErr}
use Rattle.hex_io.specs.Grew.{GaveProperPart}
use Rattle.hex_devices.specs.Calls.{GivesAll}
use Rattle.hex_devices.specs.Devices.{DevicesState}
use Rattle.htp_session.specs.Calls.Holding.{Passes}

-- all that was held was given
pub passes_all : {E : Type 0} (old new : DevicesState) (held held_now : List ℕ)
    (result : Result (Unit {0}) E) → GivesAll old new held result → OnOk result (held_now ≡ [])
    → OnOk result (Passes old.link new.link held [] held_now)
passes_all old new held held_now (Ok done) gave none =
    (held, ap (λ l. held ++ l) (sym none), gave)
passes_all old new held held_now (Err fault) gave none = tt

-- or at a fault a prefix of it
pub passes_part : {E : Type 0} (old new : DevicesState) (held : List ℕ)
    (result : Result (Unit {0}) E) → GivesAll old new held result
    → OnErr result (GaveProperPart old.link new.link held)
passes_part old new held (Ok done) gave = tt
passes_part old new held (Err fault) gave = gave
