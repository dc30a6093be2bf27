use Rattle.std.proofs.Common.{◌≤◌, arith}
use Rattle.option_words.proofs.NumberLemmas.{number_at_most}
use Rattle.option_words.proofs.numbers.small_number.Goals as goal

pub overflow_cast-result : goal.overflow_cast-result
overflow_cast-result c =
    let low : c.in_ok-n.n ≤ c.args.most
    = number_at_most _ _ _ _ ((c.number.ensures c.in_ok-n.n).0 c.in_ok-n.was) in omega arith
