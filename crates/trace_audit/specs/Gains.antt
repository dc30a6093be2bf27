-- What is added to the sums of a block, word by word. No clause of a public call cites this.
use Rattle.std.specs.Prelude.{◌≡◌, ◌≢◌, ◌⊎◌, ℕ, ◌+◌, ◌-◌, ◌*◌, ◌^◌, ◌<◌, ◌≤◌, if◌then◌else◌, List}
use Rattle.std.specs.Prelude.{length, set, slice_index}
use Rattle.hex_cells.specs.Sets.{has}
use Rattle.hex_cells.specs.declared.board_size.TheConstants.{MOST_CELLS}
use Rattle.tree_words.specs.Words.{cell_in, node_at, nodes_in, visits_in, wins_in}
use Rattle.tree_words.specs.declared.layout.TheConstants.{SEEN_WORD, TALLY_WORD, VISITS_SHIFT}

-- a word with the same visits, and the wins of the other player
abbrev pub turned_word : ℕ → ℕ
turned_word n = 2 ^ VISITS_SHIFT * visits_in n + (visits_in n - wins_in n)

-- the cell of the node of place k of the block at b
abbrev pub cell_of_node : List ℕ → ℕ → ℕ → ℕ
cell_of_node words b k = cell_in (slice_index words (node_at b k))

-- each node of the block at b has the number of a cell
abbrev pub AreCells : List ℕ → ℕ → Type 0
AreCells words b = (k : ℕ) → k < nodes_in words b → cell_of_node words b k < MOST_CELLS

-- x is a node of the block at b
abbrev pub IsNodeOf : List ℕ → ℕ → ℕ → Type 0
IsNodeOf words b x = (k : ℕ) × (k < nodes_in words b) × (x ≡ node_at b k)

-- so much more fits into the sum of the seen word of each node of the block at b
abbrev pub CanGain : List ℕ → List ℕ → ℕ → ℕ → Type 0
CanGain words sums b amount = (k : ℕ) → k < nodes_in words b
    → slice_index sums (node_at b k + SEEN_WORD) + amount < 2 ^ 64

-- what the stones of a player give a cell
abbrev pub stone_gift : ℕ → ℕ → ℕ → ℕ
stone_gift stones amount c = if has stones c then amount else 0

-- the amount without what is unseen at a cell
abbrev pub rest_gift : ℕ → List ℕ → ℕ → ℕ
rest_gift amount unseen c = amount - slice_index unseen c

-- no more is unseen at a node of the block at b than the amount, and the rest fits into the sum of
-- its seen word
abbrev pub HasGiftRoom : List ℕ → List ℕ → ℕ → ℕ → List ℕ → Type 0
HasGiftRoom words sums b amount unseen = (k : ℕ) → k < nodes_in words b
    → let c = cell_of_node words b k in
    (slice_index unseen c ≤ amount)
    × (slice_index sums (node_at b k + SEEN_WORD) + rest_gift amount unseen c < 2 ^ 64)

-- for the cell c: if one of the first n nodes of the block at b has it, its seen word, turned;
-- else 0
abbrev pub IsUnseenAt : List ℕ → List ℕ → ℕ → ℕ → List ℕ → ℕ → Type 0
IsUnseenAt words sums b n unseen c =
    ((k : ℕ) × (k < n) × (cell_of_node words b k ≡ c)
    × (slice_index unseen c ≡ turned_word (slice_index sums (node_at b k + SEEN_WORD))))
    ⊎ (((k : ℕ) → k < n → cell_of_node words b k ≢ c) × (slice_index unseen c ≡ 0))

-- so for each cell
abbrev pub AreUnseen : List ℕ → List ℕ → ℕ → ℕ → List ℕ → Type 0
AreUnseen words sums b n unseen =
    (c : ℕ) → c < MOST_CELLS → IsUnseenAt words sums b n unseen c

-- of the first n nodes of the block at b, the sum of the seen word of each has so much more as its
-- cell is given, and all else is as before
pub record Sees (words : List ℕ) (b n : ℕ) (gift : ℕ → ℕ) (before after : List ℕ) : Type 0 where
  pub long : length after ≡ length before
  pub seen : (k : ℕ) → k < n → slice_index after (node_at b k + SEEN_WORD)
      ≡ slice_index before (node_at b k + SEEN_WORD) + gift (cell_of_node words b k)
  pub others : (i : ℕ) → ((k : ℕ) → k < n → i ≢ node_at b k + SEEN_WORD)
      → slice_index after i ≡ slice_index before i

-- the amount is added to the first word of the block at b and to the tally of its node x, its seen
-- words have as much more as their cells are given, and all else is as before
pub record GainsBlock (words : List ℕ) (b x amount : ℕ) (gift : ℕ → ℕ) (before after : List ℕ)
    : Type 0 where
  pub long : length after ≡ length before
  pub total : slice_index after b ≡ slice_index before b + amount
  pub tally : slice_index after (x + TALLY_WORD) ≡ slice_index before (x + TALLY_WORD) + amount
  pub seen : (k : ℕ) → k < nodes_in words b → slice_index after (node_at b k + SEEN_WORD)
      ≡ slice_index before (node_at b k + SEEN_WORD) + gift (cell_of_node words b k)
  pub others : (i : ℕ) → i ≢ b → i ≢ x + TALLY_WORD
      → ((k : ℕ) → k < nodes_in words b → i ≢ node_at b k + SEEN_WORD)
      → slice_index after i ≡ slice_index before i

-- and before that one record more has x as its leaf
abbrev pub GainsLeaf : List ℕ → ℕ → ℕ → ℕ → ℕ → List ℕ → List ℕ → Type 0
GainsLeaf words b x amount stones before after =
    GainsBlock words b x amount (stone_gift stones amount)
    (set before x (slice_index before x + 1)) after
