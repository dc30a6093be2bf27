use Rattle.std.proofs.Common.{◌≡◌, length, ◌++◌}
use Rattle.std.specs.Option.{option_map}
use Rattle.win_cert.specs.Named.{numbers_named}
use Rattle.win_cert.proofs.words.Words.numbers.Given as goal

-- the numbers so far come before those of the words left
abbrev pub invariant-words : goal.invariant-words
invariant-words l = record {
  value : numbers_named l.fn.self ≡ option_map (λ rest. l.numbers.items ++ rest)
      (numbers_named l.self);
}

abbrev pub decreases-words : goal.decreases-words
decreases-words l = length l.self
