use Rattle.std.proofs.Common.{◌≡◌, ◌++◌, map, take}
use Rattle.std.specs.Fmt.{decimal}
use Rattle.win_cert.specs.Words.{after_spaces}
use Rattle.win_cert.proofs.pushing.push_numbers.Given as goal

-- the word, and the numbers so far
abbrev pub invariant-loop-number : goal.invariant-loop-number
invariant-loop-number l = record {
  text : l.text.items ≡ l.fn.text.items ++ l.word ++ after_spaces
      (map decimal (take l.number-index l.numbers));
}
