use Rattle.std.proofs.Common.{map, ap, ◌∙◌, ◌++◌, arith}
use Rattle.std.specs.Fmt.{decimal}
use Rattle.std.proofs.lemmas.List.{take_all}
use Rattle.win_cert.specs.Words.{after_spaces}
use Rattle.win_cert.proofs.Joining.{joined_after}
use Rattle.win_cert.proofs.pushing.push_numbers.Goals as goal

pub returns : goal.returns
returns c =
    let text = c.args.text.now.items in
    let word = c.args.word.now in
    c.loop-number.invariant.text
    ∙ ap (λ numbers. text ++ word ++ after_spaces (map decimal numbers))
    (take_all c.loop-number.number-index c.args.numbers.now (omega arith))
    ∙ joined_after text word (map decimal c.args.numbers.now)
