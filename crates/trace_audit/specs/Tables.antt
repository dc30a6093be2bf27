-- The linked blocks, as they are found one by one. No clause of a public call cites this.
use Rattle.std.specs.Prelude.{◌≡◌, ◌⊎◌, ℕ, ◌+◌, ◌-◌, ◌<◌, ◌≤◌, ◌==◌, if◌then◌else◌, true, List, ◌∷◌}
use Rattle.std.specs.Prelude.{length, slice_index, slice_index_or}
use Rattle.hex_board.specs.Positions.{Position}
use Rattle.play_out.specs.Fills.{empties_of}
use Rattle.tree_words.specs.Settings.{Setting, IsSetting}
use Rattle.tree_words.specs.Words.{root_at, area_at, end_of, next_in, link_in}
use Rattle.tree_words.specs.Blocks.{LinkedBlock, size, has_node, is_node, In, link_of, InOrder}
use Rattle.tree_words.specs.Blocks.{header_or_move, is_header_or_move}
use Rattle.tree_words.specs.Paths.{NodeState, node_state}
use Rattle.tree_words.specs.Complete.{Linked, AreComplete, allowed_cells, set_of}
use Rattle.tree_words.specs.Growth.{other_words}
use Rattle.tree_words.specs.Told.{Knows}
use Rattle.trace_audit.specs.declared.sites.Site.{Site}
use Rattle.trace_audit.specs.declared.sites.Table.{Table}

-- the words are linked by no blocks
abbrev pub AreUnlinked : Setting → List ℕ → Type 0
AreUnlinked s words = (bs : List LinkedBlock) → ¬ (Linked s words bs)

-- the block that begins at b below the node x with this board, if it is complete
abbrev pub block_at : Setting → Position → ℕ → ℕ → LinkedBlock
block_at s p x b = record {
  start = b;
  parent = x;
  empties = set_of (empties_of p);
  cells = if x == root_at s then allowed_cells s else empties_of p;
}

-- the header and the moves of the block stand in the words
abbrev pub ShowBlock : List ℕ → LinkedBlock → Type 0
ShowBlock words b = (i : ℕ) → i < size b → is_header_or_move i ≡ true
    → slice_index words (b.start + i) ≡ header_or_move b i

-- the block stands in the words, inside the area and below NEXT
pub record StandsInArea (s : Setting) (words : List ℕ) (b : LinkedBlock) : Type 0 where
  pub inside : b.start + size b ≤ end_of s
  pub claimed : b.start + size b ≤ next_in words
  pub shown : ShowBlock words b

-- the board of a site and the player to move there
abbrev pub site_state : Site → NodeState
site_state p = record { board = p.board; player = p.player }

-- the site is of a block that a node's link names: the block's first word says which node, and the
-- site has its board and the player to move there
pub record IsSite (s : Setting) (words : List ℕ) (bs : List LinkedBlock) (p : Site) : Type 0 where
  pub node : is_node (root_at s) bs (slice_index words p.start) ≡ true
  pub link : link_in words (slice_index words p.start) ≡ p.start
  pub inside : (area_at s ≤ p.start) × (p.start < end_of s)
  pub state : site_state p ≡ node_state s bs (slice_index words p.start)

-- the table has sites alone, and each number of its index, if it is not 0, is that of a site of
-- this word
pub record IsSiteTable (s : Setting) (words : List ℕ) (bs : List LinkedBlock) (t : Table)
    : Type 0 where
  pub long : length t.index ≡ end_of s
  pub sites : (k : ℕ) (d : Site) → k < length t.sites.items
      → IsSite s words bs (slice_index_or t.sites.items k d)
  pub index : (b : ℕ) (d : Site) → 0 < slice_index t.index b
      → let k = slice_index t.index b in
      (k ≤ length t.sites.items) × ((slice_index_or t.sites.items (k - 1) d).start ≡ b)

-- the link of the node x names the block below it, or a block that is entered in the table and not
-- yet passed, and whose first word names the node
abbrev pub IsFollowed : List ℕ → Table → ℕ → List LinkedBlock → ℕ → Type 0
IsFollowed words t passed bs x = let b = link_in words x in
    (b ≡ link_of bs x)
    ⊎ ((link_of bs x ≡ 0) × (passed ≤ b) × (0 < slice_index t.index b)
    × (slice_index words b ≡ x))

-- So far: the words below `passed` have these blocks, each of which is entered, the links of their
-- nodes below `done` are followed and the other nodes have no block, and wherever the words are
-- linked, these blocks are among the linked ones.
pub record Scanned (s : Setting) (words : List ℕ) (t : Table) (done passed : ℕ)
    (bs : List LinkedBlock) : Type 0 where
  pub order : InOrder (root_at s) bs
  pub shown : (b : LinkedBlock) → In b bs → ShowBlock words b
  pub complete : AreComplete s (next_in words) bs
  pub ended : AreComplete s passed bs
  pub area : area_at s ≤ passed
  pub table : IsSiteTable s words bs t
  pub links : (x : ℕ) → is_node (root_at s) bs x ≡ true → x < done
      → IsFollowed words t passed bs x
  pub vacant : (x : ℕ) → is_node (root_at s) bs x ≡ true → done ≤ x → link_of bs x ≡ 0
  pub entered : (b : LinkedBlock) → In b bs → 0 < slice_index t.index b.start
  pub others : t.others ≡ other_words s bs
  pub few : t.others ≤ passed
  pub known : (cs : List LinkedBlock) → Linked s words cs → Knows (root_at s) cs bs

-- The block b, which begins at `at` and ends at `end`, was found last: the links of its nodes below
-- `done` are followed.
pub record IsEntered (s : Setting) (words : List ℕ) (t : Table) (done at end : ℕ) (b : LinkedBlock)
    (bs : List LinkedBlock) : Type 0 where
  pub setting : IsSetting s
  pub long : length words ≡ end_of s
  pub start : b.start ≡ at
  pub ends : end ≡ at + size b
  pub scanned : Scanned s words t done end (b ∷ bs)

-- the node x is the root, and no block is passed, or it is a node of the block that ends where the
-- words are passed
abbrev pub IsInLastBlock : Setting → ℕ → List LinkedBlock → ℕ → Type 0
IsInLastBlock s passed bs x =
    ((x ≡ root_at s) × (passed ≡ area_at s))
    ⊎ ((b : LinkedBlock) × In b bs × (has_node b x ≡ true) × (passed ≡ b.start + size b))

-- The blocks are linked, and the table has the site of each.
pub record IsLinked (s : Setting) (words : List ℕ) (t : Table) (bs : List LinkedBlock)
    : Type 0 where
  pub linked : Linked s words bs
  pub table : IsSiteTable s words bs t
  pub entered : (b : LinkedBlock) → In b bs → 0 < slice_index t.index b.start
  pub others : t.others ≡ other_words s bs
  pub few : t.others ≤ end_of s
