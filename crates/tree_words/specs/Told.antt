-- What a list of known blocks tells of the linked blocks: a block is told by its first word and its
-- parent's board.
use Rattle.std.specs.Prelude.{◌≡◌, ℕ, ◌<◌, true, List, [], ◌∷◌}
use Rattle.play_out.specs.Fills.{empties_of}
use Rattle.tree_words.specs.Settings.{Setting}
use Rattle.tree_words.specs.Words.{root_at, link_in}
use Rattle.tree_words.specs.Blocks.{LinkedBlock, In, is_node}
use Rattle.tree_words.specs.Paths.{node_board, node_state}
use Rattle.tree_words.specs.Complete.{Linked, cells_below, set_of}

-- the told block: the block below the node x of the known blocks, newest first, that begins at b
abbrev pub told_block : Setting → List LinkedBlock → ℕ → ℕ → LinkedBlock
told_block s known x b = record {
  start = b;
  parent = x;
  empties = set_of (empties_of (node_board s known x));
  cells = cells_below s known x;
}

-- the known blocks are some of the blocks, and each one's parent is a node of those known before
-- it; r is the root
abbrev pub Knows : ℕ → List LinkedBlock → List LinkedBlock → Type 0
Knows r blocks [] = Unit {0}
Knows r blocks (k ∷ known) = In k blocks × (is_node r known k.parent ≡ true) × Knows r blocks known

-- the told block is the linked one: if the link of a known node is not 0, the block that it
-- names is the one that is told
abbrev pub TellsLinkedBlocks : Setting → List ℕ → List LinkedBlock → Type 0
TellsLinkedBlocks s words blocks =
    (known : List LinkedBlock) (x : ℕ) → Knows (root_at s) blocks known
    → is_node (root_at s) known x ≡ true → 0 < link_in words x
    → In (told_block s known x (link_in words x)) blocks

-- what is known of a node is so: its board and the player to move there are those that all blocks
-- tell
abbrev pub TellsNodes : Setting → List LinkedBlock → Type 0
TellsNodes s blocks = (known : List LinkedBlock) (x : ℕ) → Knows (root_at s) blocks known
    → is_node (root_at s) known x ≡ true → node_state s known x ≡ node_state s blocks x

-- each of the blocks is one of the others
abbrev pub AreAmong : List LinkedBlock → List LinkedBlock → Type 0
AreAmong blocks others = (b : LinkedBlock) → In b blocks → In b others

-- all lists of blocks that the words link have the same blocks
abbrev pub LinkSameBlocks : Setting → List ℕ → Type 0
LinkSameBlocks s words = (bs others : List LinkedBlock)
    → Linked s words bs → Linked s words others → AreAmong bs others
