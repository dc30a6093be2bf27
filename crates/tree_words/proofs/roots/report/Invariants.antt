use Rattle.std.proofs.Common.{◌≡◌, map}
use Rattle.std.specs.List.{range_with_len}
use Rattle.tree_words.specs.Roots.{row_at}
use Rattle.tree_words.proofs.roots.report.Given as goal

abbrev pub invariant-loop-place : goal.invariant-loop-place
invariant-loop-place l = l.rows.items ≡ map (row_at l.closed.shape l.closed.words)
    (range_with_len 0 l.place)
