-- What a conversation does, from its first byte to its end.
use Rattle.std.specs.Prelude.{ℕ}
use Rattle.hex_engine.specs.declared.options.Options.{Options}
use Rattle.hex_devices.specs.Devices.{DevicesState, shelf_and_archive}
use Rattle.htp_session.specs.Endings.{ConversedInGoodTurns}
use Rattle.hex_devices.specs.Devices.{Outcome}

-- a conversation with these options, from an empty board of that size, came to this outcome, and
-- each turn that it used up is good
abbrev pub Converses : Options → ℕ → ℕ → DevicesState → DevicesState → Outcome → Type 0
Converses options size limit old new outcome =
    ConversedInGoodTurns outcome options size limit (shelf_and_archive old)
    (shelf_and_archive new) old.link new.link
