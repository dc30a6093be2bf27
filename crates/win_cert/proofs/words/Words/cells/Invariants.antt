use Rattle.std.proofs.Common.{◌≡◌, length}
use Rattle.win_cert.specs.Named.{set_named}
use Rattle.win_cert.proofs.words.Words.cells.Given as goal

-- what the words left add to the set so far
abbrev pub invariant-words : goal.invariant-words
invariant-words l = record {
  value : set_named l.size 0 0 l.fn.self ≡ set_named l.size l.set l.least l.self;
}

abbrev pub decreases-words : goal.decreases-words
decreases-words l = length l.self
