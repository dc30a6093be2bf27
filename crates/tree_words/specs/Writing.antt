-- The writes of a new block.
use Rattle.std.specs.Prelude.{◌≡◌, ℕ, ◌-◌, ◌&&◌, if◌then◌else◌, List, length, slice_index}
use Rattle.std.specs.List.{filter}
use Rattle.hex_cells.specs.Sets.{has as has_cell}
use Rattle.hex_board.specs.Joined.{cells_of}
use Rattle.tree_words.specs.Words.{move_word}
use Rattle.tree_words.specs.Blocks.{LinkedBlock, size, covers, has_node, place, cell_at}
use Rattle.tree_words.specs.Blocks.{is_header_or_move, header_or_move}

-- the cells of the set on a board of this size, in rising order
abbrev pub listed : ℕ → ℕ → List ℕ
listed size set = filter (has_cell set) (cells_of size)

-- the move of each node of the block is written, and no other word changes
pub record WritesMoves (b : LinkedBlock) (before after : List ℕ) : Type 0 where
  pub long : length after ≡ length before
  pub each : (i : ℕ) → slice_index after i
      ≡ (if has_node b i then move_word (place b i) (cell_at b (place b i))
      else slice_index before i)

-- the header and the moves of the block are written, and no other word changes
pub record WritesBlock (b : LinkedBlock) (before after : List ℕ) : Type 0 where
  pub long : length after ≡ length before
  pub each : (i : ℕ) → slice_index after i
      ≡ (if covers i b && is_header_or_move (i - b.start) then header_or_move b (i - b.start)
      else slice_index before i)
