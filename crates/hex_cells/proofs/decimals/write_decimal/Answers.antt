use Rattle.std.proofs.Common.{sym, ◌∙◌}
use Rattle.std.proofs.lemmas.Fmt.{decimal_digit}
use Rattle.hex_cells.proofs.Digits.{decimal_two, front_one, front_two}
use Rattle.hex_cells.proofs.decimals.write_decimal.Goals as goal

pub returns-then-number-lt10-clause-text : goal.returns-then-number-lt10-clause-text
returns-then-number-lt10-clause-text c = front_one c.args.out.now _ c.requires.room
    ∙ sym (decimal_digit c.args.number c.if-number-lt10.true)

pub returns-else-number-lt10-clause-text : goal.returns-else-number-lt10-clause-text
returns-else-number-lt10-clause-text c = front_two c.args.out.now _ _ c.requires.room
    ∙ sym (decimal_two c.args.number c.if-number-lt10.false c.requires.number)
