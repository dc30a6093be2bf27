use Rattle.std.proofs.Common.{◌≡◌, ℕ, ◌+◌, ◌<◌, true}
use Rattle.std.specs.Prelude.{slice_index}
use Rattle.tree_words.specs.Blocks.{is_header_or_move}
use Rattle.trace_audit.proofs.blocks.same_block.Given as goal

abbrev pub invariant-words : goal.invariant-words
invariant-words l = (i : ℕ) → i < l.i → is_header_or_move i ≡ true
    → slice_index l.words (l.at + i) ≡ slice_index l.block i
