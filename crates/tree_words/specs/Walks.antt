-- A tree of the search, and one walk on it.
use Rattle.std.specs.Prelude.{ℕ, zero, suc, ◌+◌, ◌≤◌, if◌then◌else◌, Bool, true, false, List, []}
use Rattle.std.specs.Prelude.{◌∷◌}
use Rattle.tree_words.specs.Words.{Count}

-- no visits
abbrev pub nothing : Count
nothing = record { visits = 0; wins = 0 }

-- the sum of two counts
abbrev pub plus : Count → Count → Count
plus a b = record { visits = a.visits + b.visits; wins = a.wins + b.wins }

-- a node has a cell, its visits and wins, its seen visits and seen wins, and its children, none
-- if it has no block
mutual
  pub data Tree : Type 0 where
    node : ℕ → Count → Count → Children → Tree

  pub data Children : Type 0 where
    done : Children
    more : Tree → Children → Children

-- What a walk asks. S is what a node of the way down stands for, a board and the player to move; O
-- is what a playout gives.
pub record Game (S O : Type 0) : Type 0 where
  -- the place of the child that is chosen, from the node's visits and wins and each child's two
  -- counts
  pub choose : Count → List (Count × Count) → ℕ
  -- after a stone on the cell
  pub next : S → ℕ → S
  -- playout k
  pub play : ℕ → S → O
  -- what a node of the path gets
  pub gain : O → S → Count
  -- what a child of a node of the path, with this cell, gets as seen; S is the parent's
  pub glimpse : O → S → ℕ → Count
  -- whether a leaf with these visits gets a block, if `next` is this number
  pub wide : ℕ → Count → S → Bool
  -- `next` after the walk
  pub grown : ℕ → Count → S → ℕ
  -- the cells of a new block
  pub cells : S → List ℕ

abbrev pub node_cell : Tree → ℕ
node_cell (node c v e row) = c

abbrev pub counts_of : Tree → Count × Count
counts_of (node c v e row) = (v, e)

-- a node with more seen
abbrev pub lit : Count → Tree → Tree
lit n (node c v e row) = node c v (plus e n) row

abbrev pub pairs : Children → List (Count × Count)
pairs done = []
pairs (more t ts) = counts_of t ∷ pairs ts

abbrev pub is_bare : Children → Bool
is_bare done = true
is_bare (more t ts) = false

-- the nodes of a new block: no counts, and no children
abbrev pub fresh : List ℕ → Children
fresh [] = done
fresh (c ∷ cs) = more (node c nothing nothing done) (fresh cs)

-- the children that the walk does not enter: they may have been seen
abbrev pub pass : {S O : Type 0} → Game S O → O → S → Children → Children
pass g o s done = done
pass g o s (more t ts) = more (lit (g.glimpse o s (node_cell t)) t) (pass g o s ts)

-- the leaf of the walk, its visits and its S: at a node with children the walk goes to the chosen
-- one
abbrev mutual
  pub leaf_state : {S O : Type 0} → Game S O → Tree → S → Count × S
  leaf_state g (node c v e row) s = leaf_row g v row (g.choose v (pairs row)) s

  pub leaf_row : {S O : Type 0} → Game S O → Count → Children → ℕ → S → Count × S
  leaf_row g v done i s = (v, s)
  leaf_row g v (more t ts) zero s = leaf_state g t (g.next s (node_cell t))
  leaf_row g v (more t ts) (suc i) s = leaf_row g v ts i s

-- what the walk adds if its playout gave o: each node of the path gains, and each node of its
-- block is seen or not
abbrev mutual
  pub add : {S O : Type 0} → Game S O → O → Tree → S → Tree
  add g o (node c v e row) s =
      node c (plus v (g.gain o s)) e (add_row g o row (g.choose v (pairs row)) s)

  pub add_row : {S O : Type 0} → Game S O → O → Children → ℕ → S → Children
  add_row g o done i s = done
  add_row g o (more t ts) zero s =
      more (lit (g.glimpse o s (node_cell t)) (add g o t (g.next s (node_cell t)))) (pass g o s ts)
  add_row g o (more t ts) (suc i) s =
      more (lit (g.glimpse o s (node_cell t)) t) (add_row g o ts i s)

-- the leaf of the walk gets its block, if it is to have one; n is `next`
abbrev mutual
  pub expand : {S O : Type 0} → Game S O → ℕ → Tree → S → Tree
  expand g n (node c v e row) s =
      node c v e
      (if is_bare row then (if g.wide n v s then fresh (g.cells s) else done)
      else expand_row g n row (g.choose v (pairs row)) s)

  pub expand_row : {S O : Type 0} → Game S O → ℕ → Children → ℕ → S → Children
  expand_row g n done i s = done
  expand_row g n (more t ts) zero s = more (expand g n t (g.next s (node_cell t))) ts
  expand_row g n (more t ts) (suc i) s = more t (expand_row g n ts i s)

-- One walk, for playout k, of a tree and of `next`: first the leaf gets its block, then the walk
-- adds what its playout, from the leaf, gave. It goes on into a new block by itself, since the leaf
-- is looked for again; that is the same walk, as a new block changes no count on the way, and its
-- first child is a leaf, having no visit.
abbrev pub walk : {S O : Type 0} → Game S O → S → ℕ → Tree × ℕ → Tree × ℕ
walk g s k t =
    let u = expand g t.1 t.0 s in (
      add g (g.play k (leaf_state g u s).1) u s,
      g.grown t.1 (leaf_state g t.0 s).0 (leaf_state g t.0 s).1,
    )

-- the walks for playouts 0 to k - 1
abbrev pub walks : {S O : Type 0} → Game S O → S → Tree × ℕ → ℕ → Tree × ℕ
walks g s first zero = first
walks g s first (suc k) = walk g s k (walks g s first k)

-- neither count passes k
abbrev pub AtMost : ℕ → Count → Type 0
AtMost k c = (c.visits ≤ k) × (c.wins ≤ k)
