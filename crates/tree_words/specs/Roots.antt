-- The root's children, as the words have them.
use Rattle.std.specs.Prelude.{◌≡◌, ℕ, ◌+◌, ◌*◌, ◌<◌, ◌≤◌, ◌⊎◌, List, length, slice_index, map}
use Rattle.std.specs.List.Sorted.{IsStrictlyIncreasing}
use Rattle.std.specs.List.{range_with_len}
use Rattle.tree_words.specs.Settings.{Setting}
use Rattle.tree_words.specs.Words.{root_at, cell_in, link_in, tally_in, nodes_in}
use Rattle.tree_words.specs.Complete.{allowed_cells}
use Rattle.tree_words.specs.declared.roots.Row.{Row}
use Rattle.tree_words.specs.declared.layout.TheConstants.{NODE_WORDS, HEADER_WORDS, MOST_NODES}
use Rattle.tree_words.specs.Blocks.{block_size}
use Rattle.hex_cells.specs.declared.board_size.TheConstants.{MOST_CELLS}

-- the first word of the root's block, and how many nodes it has
abbrev pub root_link : Setting → List ℕ → ℕ
root_link s words = link_in words (root_at s)

abbrev pub root_count : Setting → List ℕ → ℕ
root_count s words = nodes_in words (root_link s words)

-- the cell, the visits and the wins of the root's child of place i
abbrev pub row_at : Setting → List ℕ → ℕ → Row
row_at s words i = let x = root_link s words + HEADER_WORDS + NODE_WORDS * i in
    record {
      cell = cell_in (slice_index words x);
      visits = (tally_in words x).visits;
      wins = (tally_in words x).wins;
    }

-- one row for each child of the root, by rising place
abbrev pub rows_of : Setting → List ℕ → List Row
rows_of s words = map (row_at s words) (range_with_len 0 (root_count s words))

-- the cell is that of a child of the root with most visits, and no other child with as many has a
-- lower cell
pub record IsBest (s : Setting) (words : List ℕ) (cell : ℕ) : Type 0 where
  pub place : ℕ
  pub within : place < root_count s words
  pub is : cell ≡ (row_at s words place).cell
  pub most : (i : ℕ) → i < root_count s words
      → (row_at s words i).visits ≤ (row_at s words place).visits
  pub least : (i : ℕ) → i < root_count s words
      → (row_at s words i).visits ≡ (row_at s words place).visits → cell ≤ (row_at s words i).cell

-- the rows stand in rising order of their cells
abbrev pub Rise : List Row → Type 0
Rise rows = IsStrictlyIncreasing (map (λ row. row.cell) rows)

-- row a is preferred to row b: it has more visits, or as many and a lower cell
abbrev pub Beats : Row → Row → Type 0
Beats a b = (b.visits < a.visits) ⊎ ((a.visits ≡ b.visits) × (a.cell < b.cell))

-- what the words of a closed tree say of the root's children: their block lies within the words,
-- there are 1 to 121 of them, and they have the allowed cells, which are cells of the board, in
-- rising order
pub record HasRoot (s : Setting) (words : List ℕ) : Type 0 where
  pub within : root_link s words + block_size (root_count s words) ≤ length words
  pub count : root_count s words ≡ length (allowed_cells s)
  pub some : 1 ≤ root_count s words
  pub few : root_count s words ≤ MOST_NODES
  pub cells : (i : ℕ) → i < root_count s words
      → (row_at s words i).cell ≡ slice_index (allowed_cells s) i
  pub on_board : (i : ℕ) → i < root_count s words
      → (row_at s words i).cell < s.board.size * s.board.size
  pub numbers : (i : ℕ) → i < root_count s words → (row_at s words i).cell < MOST_CELLS
  pub rise : IsStrictlyIncreasing (allowed_cells s)
