-- The report of a tree.
use Rattle.std.specs.Prelude.{List, [], ◌∷◌, Option, option_map}
use Rattle.tree_words.specs.Closing.{ClosedTree}
use Rattle.tree_words.specs.Roots.{rows_of}
use Rattle.tree_words.specs.Sequence.{seq_of}
use Rattle.hex_plan.specs.Turns.{TurnData}
use Rattle.tree_words.specs.Walks.{Tree, node, Children, done, more}
use Rattle.tree_words.specs.declared.roots.Row.{Row}

-- a node's cell, visits and wins
abbrev pub row_in : Tree → Row
row_in (node c v e row) = record { cell = c; visits = v.visits; wins = v.wins }

-- one row for each of these trees
abbrev pub rows_on : Children → List Row
rows_on done = []
rows_on (more t ts) = row_in t ∷ rows_on ts

-- one row for each child of the root, in the tree's order
abbrev pub rows_in : Tree → List Row
rows_in (node c v e row) = rows_on row

-- the rows of a turn's tree, if it has one
abbrev pub reported_rows : TurnData → Option (List Row)
reported_rows t = option_map (λ (closed : ClosedTree). rows_of closed.shape closed.words) t.closed

-- the rows of the tree that Seq has for the shape of the turn's tree
abbrev pub sequential_rows : TurnData → Option (List Row)
sequential_rows t = option_map (λ (closed : ClosedTree). rows_in (seq_of closed.shape).0) t.closed
