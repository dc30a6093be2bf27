-- The raw lines of a whole text.
use Rattle.std.specs.Prelude.{ℕ, Bool, List, [], ◌∷◌, ◌++◌, ◌==◌}
use Rattle.std.specs.List.{slice_split}

-- a line feed
abbrev pub is_feed : ℕ → Bool
is_feed b = b == 10

-- what stands between the line feeds
abbrev pub parts_of : List ℕ → List (List ℕ)
parts_of bytes = slice_split is_feed bytes

-- all parts but the last
abbrev pub but_last : List (List ℕ) → List (List ℕ)
but_last [] = []
but_last (x ∷ []) = []
but_last (x ∷ y ∷ ys) = x ∷ but_last (y ∷ ys)

-- the last part
abbrev pub last_part : List (List ℕ) → List ℕ
last_part [] = []
last_part (x ∷ []) = x
last_part (x ∷ y ∷ ys) = last_part (y ∷ ys)

-- the lines that a line feed ends
unfoldable pub whole : List ℕ → List (List ℕ)
whole bytes = but_last (parts_of bytes)

-- what stands after the last line feed
unfoldable pub rest : List ℕ → List ℕ
rest bytes = last_part (parts_of bytes)

-- a last line without a line feed, where it has a byte
abbrev pub unless_empty : List ℕ → List (List ℕ)
unless_empty [] = []
unless_empty (b ∷ bs) = (b ∷ bs) ∷ []

-- the lines of a text that has ended
abbrev pub lines : List ℕ → List (List ℕ)
lines bytes = whole bytes ++ unless_empty (rest bytes)
