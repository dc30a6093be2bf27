-- The walk on the linked blocks, oldest first: where it goes, and what it adds to each node.
use Rattle.std.specs.Prelude.{◌≡◌, ◌⊎◌, ℕ, ◌+◌, ◌<◌, ◌≤◌, ◌==◌, if◌then◌else◌, true, false, List}
use Rattle.std.specs.Prelude.{[], ◌∷◌, ◌++◌, length}
use Rattle.tree_words.specs.Words.{Count, next_in, tally_in, seen_in}
use Rattle.tree_words.specs.Blocks.{LinkedBlock, size, child, has_node, place, cell_at}
use Rattle.tree_words.specs.Walks.{nothing, plus, Game, Tree}
use Rattle.tree_words.specs.Trees.{down, tree_at, oldest_first}
use Rattle.tree_words.specs.declared.layout.TheConstants.{NODE_WORDS, HEADER_WORDS}

-- the two counts of each node of a block whose first node begins at y
abbrev pub pairs_of : (ℕ → Count) → (ℕ → Count) → ℕ → List ℕ → List (Count × Count)
pairs_of p q y [] = []
pairs_of p q y (c ∷ cs) = (p y, q y) ∷ pairs_of p q (y + NODE_WORDS) cs

-- the place of the child of x that is chosen, b being the block below x
abbrev pub pick : {S O : Type 0} → Game S O → (ℕ → Count) → (ℕ → Count) → LinkedBlock → ℕ → ℕ
pick g p q b x = g.choose (p x) (pairs_of p q (b.start + HEADER_WORDS) b.cells)

module _ {S O : Type 0} (g : Game S O) (p q : ℕ → Count) where
  abbrev pub leaf_inner : LinkedBlock → ℕ → (ℕ → ℕ) → ℕ
  leaf_inner b x f = f (child b (pick g p q b x))

  -- the leaf of the walk from x down
  abbrev pub leaf_at : List LinkedBlock → ℕ → ℕ
  leaf_at = down (λ x. x) leaf_inner

  abbrev pub state_leaf : ℕ → S → Count × S
  state_leaf x s = (p x, s)

  abbrev pub state_inner : LinkedBlock → ℕ → (ℕ → S → Count × S) → S → Count × S
  state_inner b x f s = f (child b (pick g p q b x)) (g.next s (cell_at b (pick g p q b x)))

  -- the visits and wins of that leaf, and what it stands for
  abbrev pub state_at : List LinkedBlock → ℕ → S → Count × S
  state_at = down state_leaf state_inner

  abbrev pub steps_inner : LinkedBlock → ℕ → (ℕ → List ℕ) → List ℕ
  steps_inner b x f = child b (pick g p q b x) ∷ f (child b (pick g p q b x))

  -- the nodes on the way down to it, below x
  abbrev pub steps_at : List LinkedBlock → ℕ → List ℕ
  steps_at = down (λ x. []) steps_inner

  module _ (o : O) where
    abbrev pub adds_leaf : ℕ → S → ℕ → Count
    adds_leaf x s w = if x == w then g.gain o s else nothing

    abbrev pub adds_inner : LinkedBlock → ℕ → (ℕ → S → ℕ → Count) → S → ℕ → Count
    adds_inner b x f s w =
        if x == w then g.gain o s
        else f (child b (pick g p q b x)) (g.next s (cell_at b (pick g p q b x))) w

    -- what the walk from x down adds to the visits and wins of w
    abbrev pub adds : List LinkedBlock → ℕ → S → ℕ → Count
    adds = down adds_leaf adds_inner

    abbrev pub sees_leaf : ℕ → S → ℕ → Count
    sees_leaf x s w = nothing

    abbrev pub sees_inner : LinkedBlock → ℕ → (ℕ → S → ℕ → Count) → S → ℕ → Count
    sees_inner b x f s w =
        if has_node b w then g.glimpse o s (cell_at b (place b w))
        else f (child b (pick g p q b x)) (g.next s (cell_at b (pick g p q b x))) w

    -- what it adds to the seen counts of w
    abbrev pub sees : List LinkedBlock → ℕ → S → ℕ → Count
    sees = down sees_leaf sees_inner

-- the node from which w comes, and that lies in none of the blocks
abbrev pub top : List LinkedBlock → ℕ → ℕ
top [] w = w
top (b ∷ bs) w = if has_node b (top bs w) then b.parent else top bs w

-- x is a node of none of the blocks
abbrev pub Out : List LinkedBlock → ℕ → Type 0
Out [] x = Unit {0}
Out (b ∷ bs) x = (has_node b x ≡ false) × Out bs x

-- b has nodes, which are none of the newer blocks
pub record Sprout (b : LinkedBlock) (bs : List LinkedBlock) : Type 0 where
  pub apart : (x : ℕ) → has_node b x ≡ true → Out bs x
  pub some : 0 < length b.cells

abbrev pub Sprouts : List LinkedBlock → Type 0
Sprouts [] = Unit {0}
Sprouts (b ∷ bs) = Sprout b bs × Sprouts bs

-- the blocks end by the word n
abbrev pub EndsBy : ℕ → List LinkedBlock → Type 0
EndsBy n [] = Unit {0}
EndsBy n (b ∷ bs) = (b.start + size b ≤ n) × EndsBy n bs

-- the linked blocks, oldest first, the counts of each node by its first word, and `next`
pub record Config : Type 0 where
  pub blocks : List LinkedBlock
  pub tally : ℕ → Count
  pub seen : ℕ → Count
  pub next : ℕ

-- its tree, if the root's first word is r
abbrev pub tree_in : ℕ → Config → Tree
tree_in r c = tree_at c.tally c.seen c.blocks r 0 nothing

-- the leaf's counts and what it stands for
abbrev pub walk_end : {S O : Type 0} → Game S O → S → ℕ → Config → Count × S
walk_end g s r c = state_at g c.tally c.seen c.blocks r s

-- c has the new block n, below its leaf
pub record NewBlock {S O : Type 0} (g : Game S O) (s : S) (r : ℕ) (c d : Config)
    (n : LinkedBlock) : Type 0 where
  pub wide : g.wide c.next (walk_end g s r c).0 (walk_end g s r c).1 ≡ true
  pub blocks : d.blocks ≡ c.blocks ++ n ∷ []
  pub parent : n.parent ≡ leaf_at g c.tally c.seen c.blocks r
  pub cells : n.cells ≡ g.cells (walk_end g s r c).1
  pub start : n.start ≡ c.next
  pub room : n.start + size n ≤ d.next
  pub some : 0 < length n.cells
  pub blank : (y : ℕ) → has_node n y ≡ true → (c.tally y ≡ nothing) × (c.seen y ≡ nothing)

-- the leaf of c gets its block in d, if it is to have one, and no count changes
pub record Widened {S O : Type 0} (g : Game S O) (s : S) (r : ℕ) (c d : Config) : Type 0 where
  pub next : d.next ≡ g.grown c.next (walk_end g s r c).0 (walk_end g s r c).1
  pub block : ((n : LinkedBlock) × NewBlock g s r c d n)
      ⊎ ((g.wide c.next (walk_end g s r c).0 (walk_end g s r c).1 ≡ false) × (d.blocks ≡ c.blocks))
  pub tally : (w : ℕ) → top d.blocks w ≡ r → d.tally w ≡ c.tally w
  pub seen : (w : ℕ) → top d.blocks w ≡ r → (w ≡ r → ⊥) → d.seen w ≡ c.seen w

-- the walk of c adds, in d, if its playout gave o
pub record Added {S O : Type 0} (g : Game S O) (s : S) (r : ℕ) (o : O) (c d : Config) : Type 0 where
  pub next : d.next ≡ c.next
  pub blocks : d.blocks ≡ c.blocks
  pub tally : (w : ℕ) → top c.blocks w ≡ r
      → d.tally w ≡ plus (c.tally w) (adds g c.tally c.seen o c.blocks r s w)
  pub seen : (w : ℕ) → top c.blocks w ≡ r → (w ≡ r → ⊥)
      → d.seen w ≡ plus (c.seen w) (sees g c.tally c.seen o c.blocks r s w)

-- what keeps the tree of the blocks whole
pub record Fine (r : ℕ) (c : Config) : Type 0 where
  pub sprouts : Sprouts c.blocks
  pub root : Out c.blocks r
  pub ends_by : EndsBy c.next c.blocks
  pub low : r < c.next

-- each block's parent is older than the block
abbrev pub Rooted : List LinkedBlock → Type 0
Rooted [] = Unit {0}
Rooted (b ∷ bs) = (has_node b b.parent ≡ false) × Out bs b.parent × Rooted bs

-- b is the block whose parent is x
abbrev pub Names : List LinkedBlock → ℕ → LinkedBlock → Type 0
Names [] x b = ⊥
Names (c ∷ bs) x b = ((c ≡ b) × (b.parent ≡ x)) ⊎ (((c.parent == x) ≡ false) × Names bs x b)

-- no block has x as its parent
abbrev pub Bare : List LinkedBlock → ℕ → Type 0
Bare [] x = Unit {0}
Bare (b ∷ bs) x = ((b.parent == x) ≡ false) × Bare bs x

-- x is a node of one of the blocks
abbrev pub Inside : List LinkedBlock → ℕ → Type 0
Inside [] x = ⊥
Inside (b ∷ bs) x = (has_node b x ≡ true) ⊎ Inside bs x

-- the linked blocks, `next` and the counts that the words have, as a walk on blocks reads them
abbrev pub config_of : List LinkedBlock → List ℕ → Config
config_of bs words = record {
  blocks = oldest_first bs;
  tally = tally_in words;
  seen = seen_in words;
  next = next_in words;
}
