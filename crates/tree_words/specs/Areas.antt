-- Trees whose block area ends earlier, and the first words of a tree.
use Rattle.std.specs.Prelude.{◌≡◌, ℕ, ◌-◌, ◌≤◌, List, ◌++◌, length, min, replicate}
use Rattle.tree_words.specs.Settings.{Setting}
use Rattle.tree_words.specs.Words.{area_at, end_of, next_in}

-- the shape with an area of so many words
abbrev pub with_area : Setting → ℕ → Setting
with_area s words = record s { knobs = record s.knobs { words = words } }

-- the shape c is that of s with an area that may end earlier
pub record IsNarrower (c s : Setting) : Type 0 where
  pub area : c ≡ with_area s c.knobs.words
  pub less : c.knobs.words ≤ s.knobs.words

-- The shape c is that of s with an area that may end earlier, but not before the last word that
-- is written, and these words are those up to there.
pub record IsCut (s : Setting) (words : List ℕ) (c : Setting) : Type 0 where
  pub area : c ≡ with_area s c.knobs.words
  pub long : length words ≡ end_of c
  pub less : end_of c ≤ end_of s
  pub enough : min (next_in words) (end_of s) ≤ end_of c

-- all words of a tree of this shape, if these are the first and the others are 0
abbrev pub all_words : Setting → List ℕ → List ℕ
all_words s words = words ++ replicate (end_of s - length words) 0

-- these are first words of a tree of this shape: those before the block area, and all that are
-- written
pub record AreFirst (s : Setting) (words : List ℕ) : Type 0 where
  pub least : area_at s ≤ length words
  pub most : length words ≤ end_of s
  pub written : min (next_in words) (end_of s) ≤ length words
