-- The tree that the linked blocks show.
use Rattle.std.specs.Prelude.{◌≡◌, ℕ, ◌+◌, ◌==◌, if◌then◌else◌, List, [], ◌∷◌, ◌++◌, slice_index}
use Rattle.tree_words.specs.Settings.{Setting}
use Rattle.tree_words.specs.Words.{Count, root_at, cell_in, tally_in, seen_in}
use Rattle.tree_words.specs.Blocks.{LinkedBlock}
use Rattle.tree_words.specs.Complete.{Linked}
use Rattle.tree_words.specs.Walks.{Tree, node, Children, done, more}
use Rattle.tree_words.specs.declared.layout.TheConstants.{NODE_WORDS, HEADER_WORDS}

-- the blocks the other way round
abbrev pub oldest_first : List LinkedBlock → List LinkedBlock
oldest_first [] = []
oldest_first (b ∷ bs) = oldest_first bs ++ b ∷ []

-- What is found from the node at x down, the blocks oldest first, so that the blocks below a block
-- stand behind it: `leaf` if x has no block, else `inner`, which has the block and what is found
-- at each node.
module _ {A : Type 0} (leaf : ℕ → A) (inner : LinkedBlock → ℕ → (ℕ → A) → A) where
  abbrev pub down : List LinkedBlock → ℕ → A
  down [] x = leaf x
  down (b ∷ bs) x = if b.parent == x then inner b x (down bs) else down bs x

-- the children of a block whose first node begins at y, made one by one from their first words and
-- cells
abbrev pub row_of : (ℕ → ℕ → Tree) → ℕ → List ℕ → Children
row_of make y [] = done
row_of make y (c ∷ cs) = more (make y c) (row_of make (y + NODE_WORDS) cs)

abbrev pub tree_leaf : (ℕ → Count) → ℕ → ℕ → Count → Tree
tree_leaf p x c e = node c (p x) e done

abbrev pub tree_inner : (ℕ → Count) → (ℕ → Count) → LinkedBlock → ℕ
    → (ℕ → ℕ → Count → Tree) → ℕ → Count → Tree
tree_inner p q b x f c e =
    node c (p x) e (row_of (λ y d. f y d (q y)) (b.start + HEADER_WORDS) b.cells)

-- the tree from x down, whose cell and seen counts are given; p and q are the visits and wins, and
-- the seen counts, of each node
abbrev pub tree_at : (ℕ → Count) → (ℕ → Count) → List LinkedBlock → ℕ → ℕ → Count → Tree
tree_at p q = down (tree_leaf p) (tree_inner p q)

-- the tree of these linked blocks, with the words' counts
abbrev pub tree_of : Setting → List LinkedBlock → List ℕ → Tree
tree_of s bs words = let r = root_at s in
    tree_at (tally_in words) (seen_in words) (oldest_first bs) r (cell_in (slice_index words r))
    (seen_in words r)

-- all lists of blocks that the words link show the same tree
abbrev pub ShowOneTree : Setting → List ℕ → Type 0
ShowOneTree s words = (bs others : List LinkedBlock)
    → Linked s words bs → Linked s words others → tree_of s bs words ≡ tree_of s others words

-- TreeOf: t is the tree of the blocks that the words link
pub record IsTreeOf (s : Setting) (words : List ℕ) (t : Tree) : Type 0 where
  pub blocks : List LinkedBlock
  pub linked : Linked s words blocks
  pub is : tree_of s blocks words ≡ t
