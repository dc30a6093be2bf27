-- The climb over a block's seen adds.
use Rattle.std.specs.Prelude.{ℕ, ◌+◌, ◌*◌, Bool, List, [], ◌∷◌, map}
use Rattle.std.specs.List.{filter, range_with_len}
use Rattle.hex_cells.specs.Sets.{has as has_cell, members}
use Rattle.tree_words.specs.declared.layout.TheConstants.{NODE_WORDS}
use Rattle.tree_words.specs.declared.steps.Op.{Op}
use Rattle.tree_words.specs.declared.steps.Op.TheVariants.{Add, Done}
use Rattle.arena_rule.specs.Adds.{CountAdd}
use Rattle.walker.specs.declared.climbs.TheConstants.{HALF_CELLS}

-- the adds to the seen words of the nodes of the cells of the second set: the nodes are those of
-- the cells of the first set in rising order, and `first` is the seen word of the first node
unfoldable pub half_adds : ℕ → Bool → ℕ → ℕ → List CountAdd
half_adds first won cells left =
    map (λ k. record { word = first + NODE_WORDS * members cells k; won = won })
    (filter (has_cell left) (range_with_len 0 HALF_CELLS))

-- the next of a list of adds
abbrev pub add_op : List CountAdd → Op
add_op [] = Done
add_op (a ∷ adds) = Add a.word a.won

-- the adds after the next
abbrev pub adds_after : List CountAdd → List CountAdd
adds_after [] = []
adds_after (a ∷ adds) = adds
