-- What the commands do that use nothing up.
use Rattle.std.specs.Prelude.{ℕ, ◌==◌, ◌||◌, List, [], ◌∷◌, length, Option, Some, None}
use Rattle.std.specs.Prelude.{codes, is_some, if◌then◌else◌}
use Rattle.std.specs.Option.{option_and_then, option_map, option_map_or}
use Rattle.hex_cells.specs.Colours.{colour_word}
use Rattle.hex_board.specs.Joined.{winner_of}
use Rattle.hex_game.specs.Games.{board_of}
use Rattle.hex_plan.specs.TurnTexts.{TurnTextsData}
use Rattle.sgf_game.specs.Record.{record_of}
use Rattle.sgf_tree.specs.Printing.{trees_print}
use Rattle.hex_engine.specs.BoardReplies.{QuietReaction, reply_alone}
use Rattle.hex_engine.specs.BoardReplies.{emptied, resized, playing, undone}
use Rattle.hex_engine.specs.Commands.{command_named, takes_arguments, all_names}
use Rattle.hex_engine.specs.EngineState.{EngineState}
use Rattle.hex_engine.specs.Forms.{sizes_of}
use Rattle.hex_engine.specs.Picture.{picture}
use Rattle.hex_engine.specs.Replies.{Reply, Done, Failed}
use Rattle.hex_engine.specs.Replies as reply
use Rattle.hex_engine.specs.declared.answers.Fail.{Fail}
use Rattle.hex_engine.specs.declared.answers.Fail.TheVariants.{Syntax, NoSearch, NoCert}
use Rattle.hex_engine.specs.declared.answers.Fail.TheVariants.{NoLook}
use Rattle.hex_engine.specs.declared.commands.Quiet.{Quiet}
use Rattle.hex_engine.specs.declared.commands.Quiet.TheVariants as quiet

-- a text if there is one, and else this failure
abbrev pub text_or : Fail → Option (List ℕ) → Reply
text_or fail None = Failed fail
text_or fail (Some text) = Done text

-- what `known_command` answers
abbrev pub knowing : List (List ℕ) → Reply
knowing [] = Failed Syntax
knowing (word ∷ []) =
    Done (if is_some (command_named word) then codes "true" else codes "false")
knowing (word ∷ other ∷ words) = Failed Syntax

-- What a command that uses nothing up does with these arguments, if it takes any. The four that ask
-- for the last turn answer its report, what its look-ahead found, what `mustplay` says of it, and
-- its certificate, if there is one.
abbrev pub obeyed_quietly : EngineState → Quiet → List (List ℕ) → QuietReaction
obeyed_quietly engine quiet.BoardSize args = resized engine.game (sizes_of args)
obeyed_quietly engine quiet.ClearBoard args = emptied (board_of engine.game).size
obeyed_quietly engine quiet.KnownCommand args = reply_alone engine.game (knowing args)
obeyed_quietly engine quiet.ListCommands args = reply_alone engine.game (Done all_names)
obeyed_quietly engine quiet.LookReport args = reply_alone engine.game
    (text_or NoLook (option_and_then (λ (texts : TurnTextsData). texts.look) engine.last))
obeyed_quietly engine quiet.MustPlay args = reply_alone engine.game
    (text_or NoSearch (option_map (λ (texts : TurnTextsData). texts.mustplay) engine.last))
obeyed_quietly engine quiet.Name args = reply_alone engine.game (Done (codes "hexd"))
obeyed_quietly engine quiet.Play args = playing engine.game args
obeyed_quietly engine quiet.PrintSgf args =
    reply_alone engine.game (Done (trees_print (record_of engine.game)))
obeyed_quietly engine quiet.ProtocolVersion args = reply_alone engine.game (Done (codes "2"))
obeyed_quietly engine quiet.Quit args = reply_alone engine.game reply.Quit
obeyed_quietly engine quiet.SearchReport args = reply_alone engine.game
    (text_or NoSearch (option_and_then (λ (texts : TurnTextsData). texts.report) engine.last))
obeyed_quietly engine quiet.ShowBoard args =
    reply_alone engine.game (Done (picture (board_of engine.game)))
obeyed_quietly engine quiet.Undo args = undone engine.game engine.game.steps
obeyed_quietly engine quiet.Version args = reply_alone engine.game (Done (codes "1.0"))
obeyed_quietly engine quiet.WinCert args = reply_alone engine.game
    (text_or NoCert (option_and_then (λ (texts : TurnTextsData). texts.wincert) engine.last))
obeyed_quietly engine quiet.Winner args = reply_alone engine.game
    (Done (option_map_or colour_word (winner_of (board_of engine.game)) (codes "none")))

-- what a command with these arguments does that uses nothing up: one that takes none refuses some
unfoldable pub quiet_reaction : EngineState → Quiet → List (List ℕ) → QuietReaction
quiet_reaction engine command args =
    if takes_arguments command || (length args == 0) then obeyed_quietly engine command args
    else reply_alone engine.game (Failed Syntax)
