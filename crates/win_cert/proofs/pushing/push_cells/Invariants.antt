use Rattle.std.proofs.Common.{◌≡◌, ◌++◌, map}
use Rattle.std.specs.List.{filter, range_with_len}
use Rattle.hex_cells.specs.Sets.{has}
use Rattle.hex_cells.specs.Vertices.{vertex_of}
use Rattle.win_cert.specs.Words.{after_spaces}
use Rattle.win_cert.proofs.pushing.push_cells.Given as goal

-- the word, and the vertices of the set's cells so far
abbrev pub invariant-loop-k : goal.invariant-loop-k
invariant-loop-k l = record {
  text : l.text.items ≡ l.fn.text.items ++ l.word ++ after_spaces
      (map (vertex_of l.size) (filter (has l.set) (range_with_len 0 l.k)));
}
