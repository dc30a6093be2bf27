-- Complete blocks.
use Rattle.std.specs.Prelude.{◌≡◌, ℕ, ◌+◌, ◌^◌, ◌<◌, ◌≤◌, ◌==◌, List, [], ◌∷◌, length}
use Rattle.std.specs.Prelude.{if◌then◌else◌}
use Rattle.std.specs.List.{filter}
use Rattle.hex_cells.specs.Sets.{has, with_cell}
use Rattle.hex_board.specs.Joined.{cells_of}
use Rattle.hex_board.specs.Positions.{Position, is_empty_at}
use Rattle.play_out.specs.Fills.{empties_of}
use Rattle.tree_words.specs.Settings.{Setting}
use Rattle.tree_words.specs.Words.{root_at, area_at, end_of, next_in}
use Rattle.tree_words.specs.Blocks.{LinkedBlock, size, InOrder, HaveBlocks}
use Rattle.tree_words.specs.Paths.{node_board}
use Rattle.hex_cells.specs.declared.board_size.TheConstants.{MOST_CELLS}

-- the set has just the empty cells of the board
pub record HasEmpties (set : ℕ) (p : Position) : Type 0 where
  pub small : set < 2 ^ MOST_CELLS
  pub items : (k : ℕ) → has set k ≡ is_empty_at p k

-- the number of the set of these cells
unfoldable pub set_of : List ℕ → ℕ
set_of [] = 0
set_of (c ∷ cells) = with_cell (set_of cells) c

-- the allowed cells, in rising order
unfoldable pub allowed_cells : Setting → List ℕ
allowed_cells s = filter (has s.allowed) (cells_of s.board.size)

-- the cells of a block below x: the allowed cells for the root's block, else the empty cells of the
-- board of x in rising order
abbrev pub cells_below : Setting → List LinkedBlock → ℕ → List ℕ
cells_below s bs x = if x == root_at s then allowed_cells s else empties_of (node_board s bs x)

-- the block b, linked after the blocks bs, is complete: it lies below NEXT and inside the area, has
-- the empty cells of its parent's board, and its cells are all of them, or the allowed ones at the
-- root
pub record IsComplete (s : Setting) (next : ℕ) (bs : List LinkedBlock)
    (b : LinkedBlock) : Type 0 where
  pub claimed : b.start + size b ≤ next
  pub inside : (area_at s ≤ b.start) × (b.start + size b ≤ end_of s)
  pub empties : HasEmpties b.empties (node_board s bs b.parent)
  pub cells : b.cells ≡ cells_below s bs b.parent

abbrev pub AreComplete : Setting → ℕ → List LinkedBlock → Type 0
AreComplete s next [] = Unit {0}
AreComplete s next (b ∷ bs) = IsComplete s next bs b × AreComplete s next bs

-- bs are the blocks that the links show from the root on, newest first: each is complete, is named
-- by its parent's link, and shares no word with another
pub record Linked (s : Setting) (words : List ℕ) (bs : List LinkedBlock) : Type 0 where
  pub order : InOrder (root_at s) bs
  pub shows : HaveBlocks (root_at s) bs words
  pub complete : AreComplete s (next_in words) bs

-- each block has a node. No step makes another; the closed tree does not ask it.
abbrev pub HaveNodes : List LinkedBlock → Type 0
HaveNodes [] = Unit {0}
HaveNodes (b ∷ bs) = (0 < length b.cells) × HaveNodes bs
