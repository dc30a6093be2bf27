-- The levels of a walk's way. No clause of a public call cites this.
use Rattle.std.specs.Prelude.{ℕ, ◌<◌, List, [], ◌∷◌, take, reverse}
use Rattle.walker.specs.declared.ways.Level.{Level}
use Rattle.walker.specs.declared.TheConstants.{PAST_WORDS}

-- the first n levels of an array, the last of them first
unfoldable pub levels_to : List Level → ℕ → List Level
levels_to levels n = reverse (take n levels)

-- the words of the deepest level are small
abbrev pub HasWords : List Level → Type 0
HasWords [] = Unit {0}
HasWords (l ∷ way) = (l.parent < PAST_WORDS) × (l.block < PAST_WORDS)
