use Rattle.std.proofs.Common.{◌≡◌, drop, map}
use Rattle.clap.specs.Words.{app_of, with_rule}
use Rattle.option_words.specs.Command.{option_of, plain_app, with_options, word_rule}
use Rattle.option_words.proofs.command.command_with.Given as goal

abbrev pub invariant-options : goal.invariant-options
invariant-options l =
    with_options (app_of l.command) (map option_of (drop l.option-index l.options))
    ≡ with_options (with_rule plain_app (word_rule l.fn.required)) (map option_of l.options)
