use Rattle.std.proofs.Common.{◌≡◌, true}
use Rattle.std.specs.List.{list_all}
use Rattle.std.specs.Char.{is_ascii_digit}
use Rattle.option_words.proofs.NumberLemmas.{digits_pass}
use Rattle.option_words.proofs.numbers.digits.Goals as goal

pub returns-then-not-are_digits : goal.returns-then-not-are_digits
returns-then-not-are_digits c =
    λ h. let pass : list_all is_ascii_digit c.args.text.now ≡ true = digits_pass _ h.0.1 in cc
