-- The children of a block, as Choice reads them. No clause of a public call cites this.
use Rattle.std.specs.Prelude.{ℕ, ◌+◌, ◌*◌, ◌<◌, List}
use Rattle.tree_words.specs.Words.{tally_in, seen_in}
use Rattle.tree_words.specs.Walks.{AtMost}
use Rattle.tree_words.specs.declared.layout.TheConstants.{NODE_WORDS}
use Rattle.uct_table.specs.declared.scoring.TheConstants.{MOST_COUNT}

-- the counts of the n nodes that stand from word y on can be scored
abbrev pub CanBeScored : List ℕ → ℕ → ℕ → Type 0
CanBeScored words y n =
    (k : ℕ) → k < n
    → AtMost MOST_COUNT (tally_in words (y + NODE_WORDS * k))
    × AtMost MOST_COUNT (seen_in words (y + NODE_WORDS * k))
