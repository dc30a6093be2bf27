-- The words so far are text, and none is a hyphen alone.
use Rattle.std.proofs.Common.{All, take}
use Rattle.option_words.proofs.TextLemmas.{IsOther}
use Rattle.option_words.proofs.finding.has_lone_hyphen.Given as goal

abbrev pub invariant-loop-word : goal.invariant-loop-word
invariant-loop-word l = All IsOther (take l.word-index l.words)
