-- The linked blocks, newest first, and what they fix.
use Rattle.std.specs.Prelude.{◌≡◌, ◌⊎◌, ℕ, zero, suc, ◌+◌, ◌-◌, ◌*◌, ◌/◌, ◌%◌, ◌^◌, ◌<◌, ◌≤◌, ◌==◌}
use Rattle.std.specs.Prelude.{nat_lt, nat_le, ◌&&◌, ◌||◌, if◌then◌else◌, Bool, true, List, [], ◌∷◌}
use Rattle.std.specs.Prelude.{length, slice_index, sum_by}
use Rattle.tree_words.specs.Words.{move_word}
use Rattle.tree_words.specs.declared.layout.TheConstants.{NODE_WORDS, LINK_WORD, HEADER_WORDS}
use Rattle.tree_words.specs.declared.layout.TheConstants.{HIGH_EMPTIES_SHIFT}

-- a block: its first word, the first word of its parent node, the set of the empty cells of the
-- parent's board, and the cells of its nodes in the order of their places
pub record LinkedBlock : Type 0 where
  pub start : ℕ
  pub parent : ℕ
  pub empties : ℕ
  pub cells : List ℕ

abbrev pub one_if : Bool → ℕ
one_if b = if b then 1 else 0

-- the number of words of a block of so many nodes: four of the header and four for each node
abbrev pub block_size : ℕ → ℕ
block_size count = HEADER_WORDS + NODE_WORDS * count

abbrev pub size : LinkedBlock → ℕ
size b = block_size (length b.cells)

-- the word i lies in the block
abbrev pub covers : ℕ → LinkedBlock → Bool
covers i b = nat_le b.start i && nat_lt i (b.start + size b)

-- the first word of the node of place i
abbrev pub child : LinkedBlock → ℕ → ℕ
child b i = b.start + HEADER_WORDS + NODE_WORDS * i

-- a node of the block begins at x
abbrev pub has_node : LinkedBlock → ℕ → Bool
has_node b x =
    nat_le (b.start + HEADER_WORDS) x
    && (nat_lt x (b.start + size b) && ((x - b.start) % NODE_WORDS == 0))

-- the place of the block's node at x
abbrev pub place : LinkedBlock → ℕ → ℕ
place b x = (x - b.start - HEADER_WORDS) / NODE_WORDS

-- the cell of the node of place i
abbrev pub cell_at : LinkedBlock → ℕ → ℕ
cell_at b i = slice_index b.cells i

-- What is gathered from x up to the root: the block of a parent is older, so it stands behind. The
-- root's part is given, and `step` has the block, its node and what is gathered at the block's
-- parent.
module _ {A : Type 0} (root : A) (step : LinkedBlock → ℕ → A → A) where
  abbrev pub up : List LinkedBlock → ℕ → A
  up [] x = root
  up (b ∷ bs) x = if has_node b x then step b x (up bs b.parent) else up bs x

-- x is a node of the tree: the root, whose first word is r, or a node of a linked block
abbrev pub is_node : ℕ → List LinkedBlock → ℕ → Bool
is_node r [] x = x == r
is_node r (b ∷ bs) x = has_node b x || is_node r bs x

-- b is one of the blocks
abbrev pub In : LinkedBlock → List LinkedBlock → Type 0
In b [] = ⊥
In b (c ∷ bs) = (b ≡ c) ⊎ In b bs

-- the first word of the block whose parent is x, or 0
abbrev pub link_of : List LinkedBlock → ℕ → ℕ
link_of [] x = 0
link_of (b ∷ bs) x = if b.parent == x then b.start else link_of bs x

-- how many of the blocks have the word i
abbrev pub cover : ℕ → List LinkedBlock → ℕ
cover i bs = sum_by (λ b. one_if (covers i b)) bs

-- b may be linked after the blocks bs: its parent is a node of the tree that has no block yet and
-- lies before it, and it shares no word with the root or with them
pub record Follows (r : ℕ) (b : LinkedBlock) (bs : List LinkedBlock) : Type 0 where
  pub parent : is_node r bs b.parent ≡ true
  pub vacant : link_of bs b.parent ≡ 0
  pub above : b.parent < b.start
  pub clear : (i : ℕ) → covers i b ≡ true → cover i bs ≡ 0
  pub root : r + NODE_WORDS ≤ b.start

-- each block follows the older ones
abbrev pub InOrder : ℕ → List LinkedBlock → Type 0
InOrder r [] = Unit {0}
InOrder r (b ∷ bs) = Follows r b bs × InOrder r bs

-- word i of a block, if it is a header word or a move word: the parent, the two halves of the
-- empty cells, the count, and then each fourth word the move of a node
abbrev pub header_or_move : LinkedBlock → ℕ → ℕ
header_or_move b zero = b.parent
header_or_move b (suc zero) = b.empties % 2 ^ HIGH_EMPTIES_SHIFT
header_or_move b (suc (suc zero)) = b.empties / 2 ^ HIGH_EMPTIES_SHIFT
header_or_move b (suc (suc (suc zero))) = length b.cells
header_or_move b (suc (suc (suc (suc i)))) = move_word (i / NODE_WORDS) (cell_at b (i / NODE_WORDS))

-- word i of a block is a header word or a move word
abbrev pub is_header_or_move : ℕ → Bool
is_header_or_move i = nat_lt i HEADER_WORDS || (i % NODE_WORDS == 0)

-- the words have these linked blocks: the header and the moves of each, and at each node of the
-- tree the link that names the block whose parent it is, or 0
pub record HaveBlocks (r : ℕ) (bs : List LinkedBlock) (words : List ℕ) : Type 0 where
  pub blocks : (c : LinkedBlock) (i : ℕ) → In c bs → i < size c → is_header_or_move i ≡ true
      → slice_index words (c.start + i) ≡ header_or_move c i
  pub links : (x : ℕ) → is_node r bs x ≡ true → slice_index words (x + LINK_WORD) ≡ link_of bs x
