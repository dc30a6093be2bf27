-- What the reader finds of all the bytes, for private clauses; and what an answer is beside want of
-- memory.
use Rattle.std.specs.Prelude.{◌≡◌, ℕ, ◌<◌, ◌≤◌, List, [], ◌∷◌, length, take, drop, Some, None}
use Rattle.std.specs.Prelude.{Result, Ok, Err, ◌⊎◌}
use Rattle.sgf_tree.specs.declared.error.SgfError.{SgfError}
use Rattle.sgf_tree.specs.declared.error.SgfError.TheVariants.{NotSgf, TooDeep, Memory}
use Rattle.sgf_tree.specs.declared.reading.Reading.{Reading}
use Rattle.sgf_tree.specs.Trees.{GameTrees}
use Rattle.sgf_tree.specs.Grammar.{HasTree}
use Rattle.sgf_tree.specs.Printing.{max_depth}
use Rattle.sgf_tree.specs.Reading.{State, between, opened, in_node, in_name, after_name, in_value}
use Rattle.sgf_tree.specs.Reading.{escaped, after_value, step, run, begin, open_of, deepest_of}
use Rattle.sgf_tree.specs.ReadingStates.{state_of}

-- the answer, unless memory ran out
abbrev pub OrMemory : {A : Type 0} → Result A SgfError → Result A SgfError → Type 0
OrMemory result answer = (result ≡ answer) ⊎ (result ≡ Err Memory)

-- the reader stands outside of all trees, and has read these, at least one
abbrev pub IsFinal : State → GameTrees → Type 0
IsFinal (between o) trees = (o.outer ≡ []) × (o.kids ≡ trees) × HasTree trees
IsFinal (opened o) trees = ⊥
IsFinal (in_node o props) trees = ⊥
IsFinal (in_name o props name) trees = ⊥
IsFinal (after_name o props name) trees = ⊥
IsFinal (in_value o props name values value) trees = ⊥
IsFinal (escaped o props name values value) trees = ⊥
IsFinal (after_value o props name values) trees = ⊥

-- no byte follows, or one that can't stand there
abbrev pub IsStuckAt : State → List ℕ → Type 0
IsStuckAt s [] = Unit {0}
IsStuckAt s (x ∷ bytes) = step s x ≡ None

-- The state after these bytes, in which no more trees are or were open than may be.
abbrev pub GoesTo : List ℕ → State → Type 0
GoesTo bytes s = (run begin bytes ≡ Some s) × (deepest_of s ≤ max_depth)

abbrev pub Finds : List ℕ → Result Reading SgfError → Type 0
Finds bytes (Ok reading) = GoesTo bytes (state_of reading)
Finds bytes (Err (NotSgf at)) =
    (s : State) × (at < length bytes) × GoesTo (take at bytes) s × IsStuckAt s (drop at bytes)
Finds bytes (Err TooDeep) =
    (n : ℕ) × (s : State) × (run begin (take n bytes) ≡ Some s)
    × (max_depth < length (open_of s).outer)
Finds bytes (Err Memory) = Unit {0}
