-- The place of a refusal, told from the grammar alone.
use Rattle.std.specs.Prelude.{ℕ, ◌<◌, ◌≤◌, List, ◌++◌, length, take}
use Rattle.sgf_tree.specs.Trees.{GameTrees, depth}
use Rattle.sgf_tree.specs.Grammar.{Text}
use Rattle.sgf_tree.specs.Printing.{max_depth}

-- some collection's text begins with these bytes
abbrev pub Begins : List ℕ → Type 0
Begins start = (trees : GameTrees) × (rest : List ℕ) × Text trees (start ++ rest)

-- the longest prefix of the bytes that some collection's text begins with has this length
pub record IsLongest (bytes : List ℕ) (n : ℕ) : Type 0 where
  pub within : n ≤ length bytes
  pub begins : Begins (take n bytes)
  pub longest : (m : ℕ) → n < m → m ≤ length bytes → Begins (take m bytes) → ⊥

-- 65 trees are open at a place of these bytes: each collection whose text begins with them is that
-- deep
abbrev pub IsDeep : List ℕ → Type 0
IsDeep start =
    (trees : GameTrees) (rest : List ℕ) → Text trees (start ++ rest) → max_depth < depth trees

-- TooDeep: 65 trees are open at a place of that longest prefix.
abbrev pub IsTooDeep : List ℕ → Type 0
IsTooDeep bytes = (n : ℕ) × IsLongest bytes n × IsDeep (take n bytes)

-- NotSgf: not too deep, and the bytes are no collection's text. The place is the length of that
-- longest prefix.
pub record IsRefusedAt (bytes : List ℕ) (at : ℕ) : Type 0 where
  pub longest : IsLongest bytes at
  pub shallow : IsDeep (take at bytes) → ⊥
  pub no_text : (trees : GameTrees) → Text trees bytes → ⊥
