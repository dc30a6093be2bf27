-- Steps on the words of a plain vector. No clause of a public call cites this.
use Rattle.std.specs.Prelude.{ℕ, ◌+◌, ◌<◌, ◌^◌}
use Rattle.tree_words.specs.Sequence.{amount_of}
use Rattle.tree_words.specs.declared.steps.Op.{Op}
use Rattle.tree_words.specs.declared.steps.Op.TheVariants.{Draw, Look, Claim, Write, Publish, Add}
use Rattle.tree_words.specs.declared.steps.Op.TheVariants.{Note, Done}

-- the word has room for what the step adds to it, if x stands there
abbrev pub FitsWord : Op → ℕ → Type 0
FitsWord Draw x = x + 1 < 2 ^ 64
FitsWord (Look i) x = Unit {0}
FitsWord (Claim words) x = x + words < 2 ^ 64
FitsWord (Write i value) x = Unit {0}
FitsWord (Publish l b) x = Unit {0}
FitsWord (Add i won) x = x + amount_of won < 2 ^ 64
FitsWord (Note k value) x = Unit {0}
FitsWord Done x = Unit {0}
