use Rattle.std.proofs.Common.{◌∙◌, ◌+◌, ap, sym, drop, map}
use Rattle.std.proofs.lemmas.List.{at_drop_more}
use Rattle.clap.specs.Words.{App, app_of}
use Rattle.option_words.specs.Command.{option_of, with_options}
use Rattle.option_words.proofs.command.command_with.Goals as goal

pub options-preserved : goal.options-preserved
options-preserved c =
    let options = c.args.options.now in
    let i = c.options.option-index in
    ap (λ (a : App). with_options a (map option_of (drop (i + 1) options))) c.in_ok-command-2.ensures
    ∙ sym (at_drop_more (λ os. with_options (app_of c.options.command) (map option_of os)) options i _ c.options-test.true)
    ∙ c.options.invariant
