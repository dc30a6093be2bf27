-- The sums of what playouts add, in a second list of words. No clause of a public call cites this.
use Rattle.std.specs.Prelude.{◌≡◌, ℕ, ◌+◌, ◌*◌, ◌<◌, ◌==◌, ◌&&◌, nat_le, nat_lt, not, if◌then◌else◌}
use Rattle.std.specs.Prelude.{true}
use Rattle.std.specs.Prelude.{Bool, List, length, slice_index}
use Rattle.hex_cells.specs.Colours.{is_same}
use Rattle.hex_cells.specs.Sets.{has as has_cell}
use Rattle.hex_cells.specs.declared.colours.Colour.{Colour}
use Rattle.hex_board.specs.Positions.{Position, stones_of}
use Rattle.tree_words.specs.Settings.{Setting}
use Rattle.tree_words.specs.Words.{Count, count_in, root_at, end_of, tally_in, seen_in}
use Rattle.tree_words.specs.Blocks.{LinkedBlock, In, cell_at, has_node, is_node, place, up}
use Rattle.tree_words.specs.Paths.{mover_of, node_state}
use Rattle.tree_words.specs.Records.{leaf_of, outcome_in}
use Rattle.tree_words.specs.Counts.{count_below, visits_at, sights_at}
use Rattle.tree_words.specs.Growth.{ends_at}

-- the sums of the first n playouts: at each node its visits and wins, at each node of a block its
-- seen visits and seen wins, and in place of a node's move the number of records whose leaf it is
pub record AreSums (s : Setting) (bs : List LinkedBlock) (words sums : List ℕ) (n : ℕ)
    : Type 0 where
  pub long : length sums ≡ end_of s
  pub tallies : (x : ℕ) → is_node (root_at s) bs x ≡ true
      → tally_in sums x ≡ visits_at s bs words n x
  pub seen : (b : LinkedBlock) (y : ℕ) → In b bs → has_node b y ≡ true
      → seen_in sums y ≡ sights_at s bs words n b y
  pub leaves : (x : ℕ) → is_node (root_at s) bs x ≡ true
      → slice_index sums x ≡ ends_at words n x

-- of the first n playouts: how many pass the test, and in how many of these the player won
abbrev pub tally_of : Setting → List LinkedBlock → List ℕ → ℕ → (ℕ → Bool) → Colour → Count
tally_of s bs words n test player = record {
  visits = count_below n test;
  wins = count_below n (λ k. test k && is_same (outcome_in s bs words k).winner player);
}

-- the player who chose the nodes of the block
abbrev pub chooser : Setting → List LinkedBlock → LinkedBlock → Colour
chooser s bs b = (node_state s bs b.parent).player

-- the filled board of playout k has a stone of the block's chooser on the cell of its node y
abbrev pub has_stone : Setting → List LinkedBlock → List ℕ → LinkedBlock → ℕ → ℕ → Bool
has_stone s bs words b y k = has_cell
    (stones_of (outcome_in s bs words k).full (chooser s bs b)) (cell_at b (place b y))

-- counts of a tree: of the root, of each block, and of each block's nodes, their visits and what is
-- seen of them
pub record Counts : Type 0 where
  pub root : Count
  pub total : LinkedBlock → Count
  pub tally : LinkedBlock → ℕ → Count
  pub seen : LinkedBlock → ℕ → Count

-- The counts of the first n playouts, where a playout stands at a node, told by its leaf, and each
-- block has a way to tell it: the root and a node have the playouts that stand there, and a block
-- and its seen words those that stand at its nodes.
abbrev pub standing : Setting → List LinkedBlock → List ℕ → (ℕ → ℕ → ℕ) → ℕ → Counts
standing s bs words at n = record {
  root = tally_of s bs words n (λ k. at (root_at s) (leaf_of words k) == root_at s)
      (mover_of s bs (root_at s));
  total = λ b. tally_of s bs words n (λ k. has_node b (at b.start (leaf_of words k)))
      (chooser s bs b);
  tally = λ b x. tally_of s bs words n (λ k. at b.start (leaf_of words k) == x) (chooser s bs b);
  seen = λ b y. tally_of s bs words n
      (λ k. has_node b (at b.start (leaf_of words k)) && has_stone s bs words b y k)
      (chooser s bs b);
}

-- the sums have these counts: that of a block in its first word
pub record HaveCounts (s : Setting) (bs : List LinkedBlock) (sums : List ℕ) (c : Counts)
    : Type 0 where
  pub long : length sums ≡ end_of s
  pub root : tally_in sums (root_at s) ≡ c.root
  pub total : (b : LinkedBlock) → In b bs → count_in (slice_index sums b.start) ≡ c.total b
  pub tally : (b : LinkedBlock) (x : ℕ) → In b bs → has_node b x ≡ true
      → tally_in sums x ≡ c.tally b x
  pub seen : (b : LinkedBlock) (y : ℕ) → In b bs → has_node b y ≡ true
      → seen_in sums y ≡ c.seen b y

-- each cell of the board of size n has a stone, of one player
abbrev pub IsFullBoard : ℕ → Position → Type 0
IsFullBoard n full =
    (c : ℕ) → c < n * n → has_cell full.white c ≡ not (has_cell full.black c)

-- the sums of the first n playouts, each of which stands somewhere
pub record AreStanding (s : Setting) (bs : List LinkedBlock) (words sums : List ℕ)
    (at : ℕ → ℕ → ℕ) (n : ℕ) : Type 0 where
  pub counts : HaveCounts s bs sums (standing s bs words at n)
  pub leaves : (x : ℕ) → is_node (root_at s) bs x ≡ true
      → slice_index sums x ≡ ends_at words n x
  pub nodes : (k : ℕ) → k < n → is_node (root_at s) bs (leaf_of words k) ≡ true
  pub filled : (k : ℕ) → k < n → IsFullBoard s.board.size (outcome_in s bs words k).full

-- at first each playout stands at its leaf
abbrev pub AreOwn : Setting → List LinkedBlock → List ℕ → List ℕ → ℕ → Type 0
AreOwn s bs words sums n = AreStanding s bs words sums (λ b x. x) n

-- where a playout with the leaf x stands when all blocks from word e on have handed up their sums:
-- at the first node on its way up that is in none of these
abbrev pub stand : Setting → List LinkedBlock → ℕ → ℕ → ℕ
stand s bs e x =
    up (root_at s) (λ b y above. if nat_le e b.start then above else y) bs x

-- what has handed up its sums keeps them: a block that begins at b has those of all blocks behind
-- it
abbrev pub level : ℕ → ℕ → ℕ
level e b = if nat_lt b e then e else b + 1

-- the sums when all blocks from word e on have handed up theirs
abbrev pub AreHanded : Setting → List LinkedBlock → List ℕ → List ℕ → ℕ → Type 0
AreHanded s bs words sums e =
    AreStanding s bs words sums (λ b. stand s bs (level e b)) s.knobs.playouts
