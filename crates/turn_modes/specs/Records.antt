-- How many records a closed tree has.
use Rattle.std.specs.Prelude.{ℕ, ◌+◌, ◌==◌, not, count_by, slice_range}
use Rattle.tree_words.specs.Closing.{ClosedTree}
use Rattle.tree_words.specs.declared.layout.TheConstants.{RECORDS_AT}

-- the number of the record words that are not 0
abbrev pub records_in : ClosedTree → ℕ
records_in closed = count_by (λ word. not (word == 0))
    (slice_range closed.words RECORDS_AT (RECORDS_AT + closed.shape.knobs.playouts))
