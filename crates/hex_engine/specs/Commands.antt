-- The commands and their names.
use Rattle.std.specs.Prelude.{ℕ, Bool, true, false, List, [], ◌∷◌, Option, codes, map}
use Rattle.std.specs.List.{find, join_with_byte}
use Rattle.std.specs.Str.{bytes_eq}
use Rattle.hex_engine.specs.declared.commands.Command.{Command}
use Rattle.hex_engine.specs.declared.commands.Command.TheVariants as command
use Rattle.hex_engine.specs.declared.commands.Quiet.{Quiet}
use Rattle.hex_engine.specs.declared.commands.Quiet.TheVariants as quiet
use Rattle.hex_engine.specs.declared.commands.Using.TheVariants as using

-- all of them, in the order in which `list_commands` names them
abbrev pub commands : List Command
commands = command.Quiet quiet.BoardSize
    ∷ command.Quiet quiet.ClearBoard
    ∷ command.Using using.GenMove
    ∷ command.Quiet quiet.KnownCommand
    ∷ command.Quiet quiet.ListCommands
    ∷ command.Using using.LoadSgf
    ∷ command.Quiet quiet.LookReport
    ∷ command.Quiet quiet.MustPlay
    ∷ command.Quiet quiet.Name
    ∷ command.Quiet quiet.Play
    ∷ command.Quiet quiet.PrintSgf
    ∷ command.Quiet quiet.ProtocolVersion
    ∷ command.Quiet quiet.Quit
    ∷ command.Quiet quiet.SearchReport
    ∷ command.Quiet quiet.ShowBoard
    ∷ command.Quiet quiet.Undo
    ∷ command.Quiet quiet.Version
    ∷ command.Quiet quiet.WinCert
    ∷ command.Quiet quiet.Winner
    ∷ []

-- a command's name, as a user types it
abbrev pub name_of : Command → List ℕ
name_of (command.Quiet quiet.BoardSize) = codes "boardsize"
name_of (command.Quiet quiet.ClearBoard) = codes "clear_board"
name_of (command.Using using.GenMove) = codes "genmove"
name_of (command.Quiet quiet.KnownCommand) = codes "known_command"
name_of (command.Quiet quiet.ListCommands) = codes "list_commands"
name_of (command.Using using.LoadSgf) = codes "loadsgf"
name_of (command.Quiet quiet.LookReport) = codes "look-report"
name_of (command.Quiet quiet.MustPlay) = codes "mustplay"
name_of (command.Quiet quiet.Name) = codes "name"
name_of (command.Quiet quiet.Play) = codes "play"
name_of (command.Quiet quiet.PrintSgf) = codes "printsgf"
name_of (command.Quiet quiet.ProtocolVersion) = codes "protocol_version"
name_of (command.Quiet quiet.Quit) = codes "quit"
name_of (command.Quiet quiet.SearchReport) = codes "search-report"
name_of (command.Quiet quiet.ShowBoard) = codes "showboard"
name_of (command.Quiet quiet.Undo) = codes "undo"
name_of (command.Quiet quiet.Version) = codes "version"
name_of (command.Quiet quiet.WinCert) = codes "wincert"
name_of (command.Quiet quiet.Winner) = codes "winner"

-- the command of that name, compared byte by byte
unfoldable pub command_named : List ℕ → Option Command
command_named word = find (λ command. bytes_eq (name_of command) word) commands

-- whether a command that uses nothing up is asked for with arguments
abbrev pub takes_arguments : Quiet → Bool
takes_arguments quiet.BoardSize = true
takes_arguments quiet.KnownCommand = true
takes_arguments quiet.Play = true
takes_arguments _ = false

-- their names, each on a line
unfoldable pub all_names : List ℕ
all_names = join_with_byte 10 (map name_of commands)
