-- With one worker what a session gives is determined by its words, the bytes that it took and its
-- shelf.
use Rattle.std.specs.Prelude.{◌≡◌, ℕ, Bool, List, ◌++◌}
use Rattle.hex_io.specs.Told.{Told, Both}
use Rattle.hex_io.specs.Shelves.{Shelved}
use Rattle.htp_line.specs.Lines.{lines}
use Rattle.hexd_args.specs.declared.settings.Options as words
use Rattle.hex_engine.specs.declared.options.Options.{Options}
use Rattle.hex_engine.specs.EngineState.{opening}
use Rattle.hex_engine.specs.Supply.{Supply}
use Rattle.hex_engine.specs.Uses.{AreGood, CameOf, HasOneWorker}
use Rattle.htp_session.specs.Talk.{IsThrough, talk}
use Rattle.htp_session.specs.Endings.{since}
use Rattle.hex_cli.specs.Modes.{engine_options}
use Rattle.hex_devices.specs.Devices.{DevicesState}
use Rattle.hex_devices.specs.declared.ends.End.{End}
use Rattle.hex_devices.specs.declared.ends.End.TheVariants.{Done}

-- With one worker, what was given is the text of every talk over the lines taken that is through,
-- whose loads came of these fetches and whose turns are good. So any two such talks have one text,
-- and what this session used up is one, by its good turns: what was given is a function of the
-- options, the bytes taken, the files and which fetches were at fault.
abbrev pub IsDetermined : Options → ℕ → Shelved → Shelved → Told → Told → Type 0
IsDetermined options size shelf shelf_now old new =
    HasOneWorker options → (tries : List Bool) → shelf_now.tries ≡ shelf.tries ++ tries
    → (all : Supply) → CameOf shelf.files tries all.loads → AreGood options all.turns
    → IsThrough (talk (opening options size) all (lines (since old new)))
    → new.given ≡ old.given ++ (talk (opening options size) all (lines (since old new))).text

-- Mode htp: the same if the session is done.
abbrev pub Determines : words.Options → End → DevicesState → DevicesState → Type 0
Determines options end before after = end ≡ Done
    → Both before.shelf after.shelf (λ shelf shelf_now. Both before.link after.link
    (IsDetermined (engine_options options) options.size shelf shelf_now))
